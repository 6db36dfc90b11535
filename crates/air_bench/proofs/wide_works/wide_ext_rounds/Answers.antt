use contract.BorrowLft.{⊑_static}
use Rattle.air_bench.proofs.wide_works.wide_ext_rounds.Goals as goal

-- the field is 'static
pub ext_rounds-requires-lives-A-Air-2 : goal.ext_rounds-requires-lives-A-Air-2
ext_rounds-requires-lives-A-Air-2 g c κs within a m = ⊑_static _ a (c.type_bounds.static-EF a m)

pub ext_rounds-requires-lives-A-Air-2-2 : goal.ext_rounds-requires-lives-A-Air-2-2
ext_rounds-requires-lives-A-Air-2-2 g c κs within a m = ⊑_static _ a (c.type_bounds.static-EF a m)

pub ext_rounds-requires-lives-A-Air-2-3 : goal.ext_rounds-requires-lives-A-Air-2-3
ext_rounds-requires-lives-A-Air-2-3 g c κs within a m = ⊑_static _ a (c.type_bounds.static-EF a m)
