use Rattle.air_program.proofs.by_field.answer_named.Goals as goal

pub returns-in-BabyBear : goal.returns-in-BabyBear
returns-in-BabyBear c = rw c.in-BabyBear.is c.answer_over.ensures

pub returns-in-KoalaBear : goal.returns-in-KoalaBear
returns-in-KoalaBear c = rw c.in-KoalaBear.is c.answer_over-in-KoalaBear.ensures

pub returns-in-Mersenne31 : goal.returns-in-Mersenne31
returns-in-Mersenne31 c = rw c.in-Mersenne31.is c.answer_over-in-Mersenne31.ensures

pub returns-in-Goldilocks : goal.returns-in-Goldilocks
returns-in-Goldilocks c = rw c.in-Goldilocks.is c.answer_over-in-Goldilocks.ensures
