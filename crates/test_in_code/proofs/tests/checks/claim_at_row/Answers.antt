use contract.BorrowLft.{⊑_static}
use Rattle.test_in_code.proofs.tests.checks.claim_at_row.Goals as goal

-- EF is 'static
pub claim_asking-requires-lives-AB-NamedExtensionBuilder-2 : goal.claim_asking-requires-lives-AB-NamedExtensionBuilder-2
claim_asking-requires-lives-AB-NamedExtensionBuilder-2 g c κs within = λ a m. ⊑_static _ a (c.type_bounds.static-EF a m)

pub claim_asking-requires-lives-AB-ExtensionBuilder-2 : goal.claim_asking-requires-lives-AB-ExtensionBuilder-2
claim_asking-requires-lives-AB-ExtensionBuilder-2 g c κs within = λ a m. ⊑_static _ a (c.type_bounds.static-EF a m)

pub claim_asking-requires-lives-AB-AirBuilder-2 : goal.claim_asking-requires-lives-AB-AirBuilder-2
claim_asking-requires-lives-AB-AirBuilder-2 g c κs within = λ a m. ⊑_static _ a (c.type_bounds.static-EF a m)

pub claim_asking-requires-lives-AB-NamedAirBuilder-2 : goal.claim_asking-requires-lives-AB-NamedAirBuilder-2
claim_asking-requires-lives-AB-NamedAirBuilder-2 g c κs within = λ a m. ⊑_static _ a (c.type_bounds.static-EF a m)
