use Rattle.air_program.proofs.by_field.answer_object.Goals as goal

pub answer_first-requires-after_bounds : goal.answer_first-requires-after_bounds
answer_first-requires-after_bounds c = λ _ d status text h. rw c.in-BabyBear.is h

pub answer_first-requires-in-KoalaBear-after_bounds : goal.answer_first-requires-in-KoalaBear-after_bounds
answer_first-requires-in-KoalaBear-after_bounds c = λ _ d status text h. rw c.in-KoalaBear.is h

pub answer_first-requires-in-Mersenne31-after_bounds : goal.answer_first-requires-in-Mersenne31-after_bounds
answer_first-requires-in-Mersenne31-after_bounds c = λ _ d status text h. rw c.in-Mersenne31.is h

pub answer_first-requires-in-Goldilocks-after_bounds : goal.answer_first-requires-in-Goldilocks-after_bounds
answer_first-requires-in-Goldilocks-after_bounds c = λ _ d status text h. rw c.in-Goldilocks.is h
