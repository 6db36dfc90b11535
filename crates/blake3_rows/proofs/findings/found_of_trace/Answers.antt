use contract.BorrowLft.{⊑_static}
use Rattle.blake3_rows.proofs.findings.found_of_trace.Goals as goal

pub audit_air_with_cap-requires-lives-A-Air-2 : goal.audit_air_with_cap-requires-lives-A-Air-2
audit_air_with_cap-requires-lives-A-Air-2 g c κs within = λ a m. ⊑_static _ a (c.type_bounds.static-F a m)

pub audit_air_with_cap-requires-lives-A-Air-2-2 : goal.audit_air_with_cap-requires-lives-A-Air-2-2
audit_air_with_cap-requires-lives-A-Air-2-2 g c κs within = λ a m. ⊑_static _ a (c.type_bounds.static-F a m)

pub audit_air_with_cap-requires-lives-A-Air-2-3 : goal.audit_air_with_cap-requires-lives-A-Air-2-3
audit_air_with_cap-requires-lives-A-Air-2-3 g c κs within = λ a m. ⊑_static _ a (c.type_bounds.static-F a m)

pub audit_air_with_cap-requires-lives-A-Air-2-4 : goal.audit_air_with_cap-requires-lives-A-Air-2-4
audit_air_with_cap-requires-lives-A-Air-2-4 g c κs within = λ a m. ⊑_static _ a (c.type_bounds.static-F a m)
