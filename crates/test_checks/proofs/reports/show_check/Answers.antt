use contract.BorrowLft.{⊑_static}
use Rattle.test_checks.proofs.reports.show_check.Goals as goal

pub answer_check-requires-lives-A-Air : goal.answer_check-requires-lives-A-Air
answer_check-requires-lives-A-Air g c κs within = λ a m. ⊑_static _ a (c.type_bounds.static-F a m)

pub answer_check-requires-lives-A-Air-2 : goal.answer_check-requires-lives-A-Air-2
answer_check-requires-lives-A-Air-2 g c κs within = λ a m. ⊑_static _ a (c.type_bounds.static-F a m)

pub answer_check-requires-lives-A-Air-3 : goal.answer_check-requires-lives-A-Air-3
answer_check-requires-lives-A-Air-3 g c κs within = λ a m. ⊑_static _ a (c.type_bounds.static-F a m)

pub answer_check-requires-lives-A-Air-4 : goal.answer_check-requires-lives-A-Air-4
answer_check-requires-lives-A-Air-4 g c κs within = λ a m. ⊑_static _ a (c.type_bounds.static-F a m)

pub answer_check-requires-lives-A-Air-5 : goal.answer_check-requires-lives-A-Air-5
answer_check-requires-lives-A-Air-5 g c κs within = λ a m. ⊑_static _ a (c.type_bounds.static-F a m)

pub answer_check-requires-lives-A-Air-6 : goal.answer_check-requires-lives-A-Air-6
answer_check-requires-lives-A-Air-6 g c κs within = λ a m. ⊑_static _ a (c.type_bounds.static-F a m)

pub answer_check-requires-lives-A-Air-7 : goal.answer_check-requires-lives-A-Air-7
answer_check-requires-lives-A-Air-7 g c κs within = λ a m. ⊑_static _ a (c.type_bounds.static-F a m)

pub answer_check-requires-lives-A-Air-8 : goal.answer_check-requires-lives-A-Air-8
answer_check-requires-lives-A-Air-8 g c κs within = λ a m. ⊑_static _ a (c.type_bounds.static-F a m)

pub answer_check-requires-lives-A-Air-9 : goal.answer_check-requires-lives-A-Air-9
answer_check-requires-lives-A-Air-9 g c κs within = λ a m. ⊑_static _ a (c.type_bounds.static-F a m)

pub answer_check-requires-lives-A-Air-10 : goal.answer_check-requires-lives-A-Air-10
answer_check-requires-lives-A-Air-10 g c κs within = λ a m. ⊑_static _ a (c.type_bounds.static-F a m)

pub answer_check-requires-lives-A-Air-11 : goal.answer_check-requires-lives-A-Air-11
answer_check-requires-lives-A-Air-11 g c κs within = λ a m. ⊑_static _ a (c.type_bounds.static-F a m)

pub answer_check-requires-lives-A-Air-12 : goal.answer_check-requires-lives-A-Air-12
answer_check-requires-lives-A-Air-12 g c κs within = λ a m. ⊑_static _ a (c.type_bounds.static-F a m)

pub answer_check-requires-lives-A-Air-13 : goal.answer_check-requires-lives-A-Air-13
answer_check-requires-lives-A-Air-13 g c κs within = λ a m. ⊑_static _ a (c.type_bounds.static-F a m)
