use contract.BorrowLft.{⊑_static}
use Rattle.test_program.proofs.fibonacci.show_traced.Goals as goal

pub answer_traced-requires-lives-A-Air-2 : goal.answer_traced-requires-lives-A-Air-2
answer_traced-requires-lives-A-Air-2 g c κs within = λ a m. ⊑_static _ a (c.type_bounds.static-F a m)

pub answer_traced-requires-lives-A-Air-2-2 : goal.answer_traced-requires-lives-A-Air-2-2
answer_traced-requires-lives-A-Air-2-2 g c κs within = λ a m. ⊑_static _ a (c.type_bounds.static-F a m)

pub answer_traced-requires-lives-A-Air-2-3 : goal.answer_traced-requires-lives-A-Air-2-3
answer_traced-requires-lives-A-Air-2-3 g c κs within = λ a m. ⊑_static _ a (c.type_bounds.static-F a m)

pub answer_traced-requires-lives-A-Air-2-4 : goal.answer_traced-requires-lives-A-Air-2-4
answer_traced-requires-lives-A-Air-2-4 g c κs within = λ a m. ⊑_static _ a (c.type_bounds.static-F a m)

pub answer_traced-requires-lives-A-Air-2-5 : goal.answer_traced-requires-lives-A-Air-2-5
answer_traced-requires-lives-A-Air-2-5 g c κs within = λ a m. ⊑_static _ a (c.type_bounds.static-F a m)

pub answer_traced-requires-lives-A-Air-2-6 : goal.answer_traced-requires-lives-A-Air-2-6
answer_traced-requires-lives-A-Air-2-6 g c κs within = λ a m. ⊑_static _ a (c.type_bounds.static-F a m)
