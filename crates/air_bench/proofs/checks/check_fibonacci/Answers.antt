use contract.BorrowLft.{⊑_static}
use Rattle.air_bench.proofs.checks.check_fibonacci.Goals as goal

-- the field is 'static
pub count_failures-requires-lives-A-Air : goal.count_failures-requires-lives-A-Air
count_failures-requires-lives-A-Air g c κs within a m = ⊑_static _ a (c.type_bounds.static-F a m)

pub count_failures-requires-lives-A-Air-2 : goal.count_failures-requires-lives-A-Air-2
count_failures-requires-lives-A-Air-2 g c κs within a m = ⊑_static _ a (c.type_bounds.static-F a m)

pub count_failures-requires-lives-A-Air-3 : goal.count_failures-requires-lives-A-Air-3
count_failures-requires-lives-A-Air-3 g c κs within a m = ⊑_static _ a (c.type_bounds.static-F a m)

pub count_failures-requires-lives-A-Air-4 : goal.count_failures-requires-lives-A-Air-4
count_failures-requires-lives-A-Air-4 g c κs within a m = ⊑_static _ a (c.type_bounds.static-F a m)

pub count_failures-requires-lives-A-Air-5 : goal.count_failures-requires-lives-A-Air-5
count_failures-requires-lives-A-Air-5 g c κs within a m = ⊑_static _ a (c.type_bounds.static-F a m)

pub count_failures-requires-lives-A-Air-6 : goal.count_failures-requires-lives-A-Air-6
count_failures-requires-lives-A-Air-6 g c κs within a m = ⊑_static _ a (c.type_bounds.static-F a m)
