use contract.BorrowLft.{⊑_static}
use Rattle.test_checks.proofs.recorded.recorded_counter.Goals as goal

pub show_audit-requires-lives-A-Air-2 : goal.show_audit-requires-lives-A-Air-2
show_audit-requires-lives-A-Air-2 g c κs within = λ a m. ⊑_static _ a (c.type_bounds.static-F a m)

pub show_audit-requires-lives-A-Air-2-2 : goal.show_audit-requires-lives-A-Air-2-2
show_audit-requires-lives-A-Air-2-2 g c κs within = λ a m. ⊑_static _ a (c.type_bounds.static-F a m)

pub show_audit-requires-lives-A-Air-2-3 : goal.show_audit-requires-lives-A-Air-2-3
show_audit-requires-lives-A-Air-2-3 g c κs within = λ a m. ⊑_static _ a (c.type_bounds.static-F a m)

pub show_audit-requires-lives-A-Air-2-4 : goal.show_audit-requires-lives-A-Air-2-4
show_audit-requires-lives-A-Air-2-4 g c κs within = λ a m. ⊑_static _ a (c.type_bounds.static-F a m)

pub show_audit-requires-lives-A-Air-2-5 : goal.show_audit-requires-lives-A-Air-2-5
show_audit-requires-lives-A-Air-2-5 g c κs within = λ a m. ⊑_static _ a (c.type_bounds.static-F a m)

pub show_audit-requires-lives-A-Air-2-6 : goal.show_audit-requires-lives-A-Air-2-6
show_audit-requires-lives-A-Air-2-6 g c κs within = λ a m. ⊑_static _ a (c.type_bounds.static-F a m)
