use contract.BorrowLft.{⊑_static}
use Rattle.test_checks.proofs.assertions.assert_on.Goals as goal

-- EF is 'static
pub assert_all-requires-lives-AB-NamedExtensionBuilder-2 : goal.assert_all-requires-lives-AB-NamedExtensionBuilder-2
assert_all-requires-lives-AB-NamedExtensionBuilder-2 g c κs within = λ a m. ⊑_static _ a (c.type_bounds.static-EF a m)

pub assert_all-requires-lives-AB-ExtensionBuilder-2 : goal.assert_all-requires-lives-AB-ExtensionBuilder-2
assert_all-requires-lives-AB-ExtensionBuilder-2 g c κs within = λ a m. ⊑_static _ a (c.type_bounds.static-EF a m)

pub assert_all-requires-lives-AB-AirBuilder-2 : goal.assert_all-requires-lives-AB-AirBuilder-2
assert_all-requires-lives-AB-AirBuilder-2 g c κs within = λ a m. ⊑_static _ a (c.type_bounds.static-EF a m)

pub assert_all-requires-lives-AB-NamedAirBuilder-2 : goal.assert_all-requires-lives-AB-NamedAirBuilder-2
assert_all-requires-lives-AB-NamedAirBuilder-2 g c κs within = λ a m. ⊑_static _ a (c.type_bounds.static-EF a m)
