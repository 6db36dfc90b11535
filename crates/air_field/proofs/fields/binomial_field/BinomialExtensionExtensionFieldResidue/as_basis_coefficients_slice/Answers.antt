use Rattle.std.proofs.Common.{refl}
use Rattle.air_field.proofs.fields.binomial_field.BinomialExtensionExtensionFieldResidue.as_basis_coefficients_slice.Goals as goal

pub returns : goal.returns
returns g c = refl
