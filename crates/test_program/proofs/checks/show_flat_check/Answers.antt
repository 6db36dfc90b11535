use contract.BorrowLft.{⊑_static}
use Rattle.test_program.proofs.checks.show_flat_check.Goals as goal

pub show_check-requires-lives-A-Air : goal.show_check-requires-lives-A-Air
show_check-requires-lives-A-Air g c κs within = λ a m. ⊑_static _ a (c.type_bounds.static-F a m)

pub show_check-requires-lives-A-Air-2 : goal.show_check-requires-lives-A-Air-2
show_check-requires-lives-A-Air-2 g c κs within = λ a m. ⊑_static _ a (c.type_bounds.static-F a m)

pub show_check-requires-lives-A-Air-3 : goal.show_check-requires-lives-A-Air-3
show_check-requires-lives-A-Air-3 g c κs within = λ a m. ⊑_static _ a (c.type_bounds.static-F a m)

pub show_check-requires-lives-A-Air-4 : goal.show_check-requires-lives-A-Air-4
show_check-requires-lives-A-Air-4 g c κs within = λ a m. ⊑_static _ a (c.type_bounds.static-F a m)

pub show_check-requires-lives-A-Air-5 : goal.show_check-requires-lives-A-Air-5
show_check-requires-lives-A-Air-5 g c κs within = λ a m. ⊑_static _ a (c.type_bounds.static-F a m)

pub show_check-requires-lives-A-Air-6 : goal.show_check-requires-lives-A-Air-6
show_check-requires-lives-A-Air-6 g c κs within = λ a m. ⊑_static _ a (c.type_bounds.static-F a m)
