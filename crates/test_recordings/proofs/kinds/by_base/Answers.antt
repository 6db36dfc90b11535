use contract.BorrowLft.{⊑_static}
use Rattle.test_recordings.proofs.kinds.by_base.Goals as goal

pub over_base-requires-lives-A-Air-2 : goal.over_base-requires-lives-A-Air-2
over_base-requires-lives-A-Air-2 g c κs within = λ a m. ⊑_static _ a (c.type_bounds.static-F a m)

pub over_base-requires-lives-A-Air-2-2 : goal.over_base-requires-lives-A-Air-2-2
over_base-requires-lives-A-Air-2-2 g c κs within = λ a m. ⊑_static _ a (c.type_bounds.static-F a m)

pub over_base-requires-lives-A-Air-2-3 : goal.over_base-requires-lives-A-Air-2-3
over_base-requires-lives-A-Air-2-3 g c κs within = λ a m. ⊑_static _ a (c.type_bounds.static-F a m)

pub over_base-requires-lives-A-Air-2-4 : goal.over_base-requires-lives-A-Air-2-4
over_base-requires-lives-A-Air-2-4 g c κs within = λ a m. ⊑_static _ a (c.type_bounds.static-F a m)

pub over_base-requires-lives-A-Air-2-5 : goal.over_base-requires-lives-A-Air-2-5
over_base-requires-lives-A-Air-2-5 g c κs within = λ a m. ⊑_static _ a (c.type_bounds.static-F a m)

pub over_base-requires-lives-A-Air-2-6 : goal.over_base-requires-lives-A-Air-2-6
over_base-requires-lives-A-Air-2-6 g c κs within = λ a m. ⊑_static _ a (c.type_bounds.static-F a m)

pub over_base-requires-lives-A-Air-2-7 : goal.over_base-requires-lives-A-Air-2-7
over_base-requires-lives-A-Air-2-7 g c κs within = λ a m. ⊑_static _ a (c.type_bounds.static-F a m)

pub over_base-requires-lives-A-Air-2-8 : goal.over_base-requires-lives-A-Air-2-8
over_base-requires-lives-A-Air-2-8 g c κs within = λ a m. ⊑_static _ a (c.type_bounds.static-F a m)

pub over_base-requires-lives-A-Air-2-9 : goal.over_base-requires-lives-A-Air-2-9
over_base-requires-lives-A-Air-2-9 g c κs within = λ a m. ⊑_static _ a (c.type_bounds.static-F a m)

pub over_base-requires-lives-A-Air-2-10 : goal.over_base-requires-lives-A-Air-2-10
over_base-requires-lives-A-Air-2-10 g c κs within = λ a m. ⊑_static _ a (c.type_bounds.static-F a m)

pub over_base-requires-lives-A-Air-2-11 : goal.over_base-requires-lives-A-Air-2-11
over_base-requires-lives-A-Air-2-11 g c κs within = λ a m. ⊑_static _ a (c.type_bounds.static-F a m)

pub over_base-requires-lives-A-Air-2-12 : goal.over_base-requires-lives-A-Air-2-12
over_base-requires-lives-A-Air-2-12 g c κs within = λ a m. ⊑_static _ a (c.type_bounds.static-F a m)

pub over_base-requires-lives-A-Air-2-13 : goal.over_base-requires-lives-A-Air-2-13
over_base-requires-lives-A-Air-2-13 g c κs within = λ a m. ⊑_static _ a (c.type_bounds.static-F a m)
