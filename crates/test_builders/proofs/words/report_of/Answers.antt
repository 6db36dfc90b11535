use contract.BorrowLft.{⊑_static}
use Rattle.test_builders.proofs.words.report_of.Goals as goal

-- F is 'static
pub check_all_constraints-requires-lives-A-Air : goal.check_all_constraints-requires-lives-A-Air
check_all_constraints-requires-lives-A-Air g c κs within a m = ⊑_static _ a (c.type_bounds.static-F a m)

pub check_all_constraints-requires-lives-A-Air-2 : goal.check_all_constraints-requires-lives-A-Air-2
check_all_constraints-requires-lives-A-Air-2 g c κs within a m = ⊑_static _ a (c.type_bounds.static-F a m)

pub check_all_constraints-requires-lives-A-Air-3 : goal.check_all_constraints-requires-lives-A-Air-3
check_all_constraints-requires-lives-A-Air-3 g c κs within a m = ⊑_static _ a (c.type_bounds.static-F a m)

pub check_all_constraints-requires-lives-A-Air-4 : goal.check_all_constraints-requires-lives-A-Air-4
check_all_constraints-requires-lives-A-Air-4 g c κs within a m = ⊑_static _ a (c.type_bounds.static-F a m)

pub check_all_constraints-requires-lives-A-Air-5 : goal.check_all_constraints-requires-lives-A-Air-5
check_all_constraints-requires-lives-A-Air-5 g c κs within a m = ⊑_static _ a (c.type_bounds.static-F a m)

pub check_all_constraints-requires-lives-A-Air-6 : goal.check_all_constraints-requires-lives-A-Air-6
check_all_constraints-requires-lives-A-Air-6 g c κs within a m = ⊑_static _ a (c.type_bounds.static-F a m)
