use contract.BorrowLft.{⊑_static}
use Rattle.test_in_code.proofs.tests.lent.lent_at_row.Goals as goal

-- EF is 'static
pub lent_by_filter-requires-lives-AB-PermutationAirBuilder-2 : goal.lent_by_filter-requires-lives-AB-PermutationAirBuilder-2
lent_by_filter-requires-lives-AB-PermutationAirBuilder-2 g c κs within = λ a m. ⊑_static _ a (c.type_bounds.static-EF a m)

pub lent_by_filter-requires-lives-AB-ExtensionBuilder-2 : goal.lent_by_filter-requires-lives-AB-ExtensionBuilder-2
lent_by_filter-requires-lives-AB-ExtensionBuilder-2 g c κs within = λ a m. ⊑_static _ a (c.type_bounds.static-EF a m)

pub lent_by_filter-requires-lives-AB-AirBuilder-2 : goal.lent_by_filter-requires-lives-AB-AirBuilder-2
lent_by_filter-requires-lives-AB-AirBuilder-2 g c κs within = λ a m. ⊑_static _ a (c.type_bounds.static-EF a m)
