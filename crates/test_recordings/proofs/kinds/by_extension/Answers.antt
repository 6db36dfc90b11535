use contract.BorrowLft.{⊑_static}
use Rattle.test_recordings.proofs.kinds.by_extension.Goals as goal

pub over_extension-requires-lives-A-Air-2 : goal.over_extension-requires-lives-A-Air-2
over_extension-requires-lives-A-Air-2 g c κs within = λ a m. ⊑_static _ a (c.type_bounds.static-EF a m)

pub over_extension-requires-lives-A-Air-2-2 : goal.over_extension-requires-lives-A-Air-2-2
over_extension-requires-lives-A-Air-2-2 g c κs within = λ a m. ⊑_static _ a (c.type_bounds.static-EF a m)

pub over_extension-requires-lives-A-Air-2-3 : goal.over_extension-requires-lives-A-Air-2-3
over_extension-requires-lives-A-Air-2-3 g c κs within = λ a m. ⊑_static _ a (c.type_bounds.static-EF a m)

pub over_extension-requires-lives-A-Air-2-4 : goal.over_extension-requires-lives-A-Air-2-4
over_extension-requires-lives-A-Air-2-4 g c κs within = λ a m. ⊑_static _ a (c.type_bounds.static-EF a m)

pub over_extension-requires-lives-A-Air-2-5 : goal.over_extension-requires-lives-A-Air-2-5
over_extension-requires-lives-A-Air-2-5 g c κs within = λ a m. ⊑_static _ a (c.type_bounds.static-EF a m)

pub over_extension-requires-lives-A-Air-2-6 : goal.over_extension-requires-lives-A-Air-2-6
over_extension-requires-lives-A-Air-2-6 g c κs within = λ a m. ⊑_static _ a (c.type_bounds.static-EF a m)

pub over_extension-requires-lives-A-Air-2-7 : goal.over_extension-requires-lives-A-Air-2-7
over_extension-requires-lives-A-Air-2-7 g c κs within = λ a m. ⊑_static _ a (c.type_bounds.static-EF a m)

pub over_extension-requires-lives-A-Air-2-8 : goal.over_extension-requires-lives-A-Air-2-8
over_extension-requires-lives-A-Air-2-8 g c κs within = λ a m. ⊑_static _ a (c.type_bounds.static-EF a m)
