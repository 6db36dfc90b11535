use contract.BorrowLft.{⊑_static}
use Rattle.test_checks.proofs.reports.show_base_audit.Goals as goal

pub audit_air-requires-lives-A-Air-2-2 : goal.audit_air-requires-lives-A-Air-2-2
audit_air-requires-lives-A-Air-2-2 g c κs within = λ a m. ⊑_static _ a (c.type_bounds.static-F a m)

pub audit_air-requires-lives-A-Air-2-3 : goal.audit_air-requires-lives-A-Air-2-3
audit_air-requires-lives-A-Air-2-3 g c κs within = λ a m. ⊑_static _ a (c.type_bounds.static-F a m)

pub audit_air-requires-lives-A-Air-2-4 : goal.audit_air-requires-lives-A-Air-2-4
audit_air-requires-lives-A-Air-2-4 g c κs within = λ a m. ⊑_static _ a (c.type_bounds.static-F a m)

pub audit_air-requires-lives-A-Air-2-5 : goal.audit_air-requires-lives-A-Air-2-5
audit_air-requires-lives-A-Air-2-5 g c κs within = λ a m. ⊑_static _ a (c.type_bounds.static-F a m)

pub audit_air-requires-lives-A-Air-2-6 : goal.audit_air-requires-lives-A-Air-2-6
audit_air-requires-lives-A-Air-2-6 g c κs within = λ a m. ⊑_static _ a (c.type_bounds.static-F a m)

pub audit_air-requires-lives-A-Air-2-7 : goal.audit_air-requires-lives-A-Air-2-7
audit_air-requires-lives-A-Air-2-7 g c κs within = λ a m. ⊑_static _ a (c.type_bounds.static-F a m)
