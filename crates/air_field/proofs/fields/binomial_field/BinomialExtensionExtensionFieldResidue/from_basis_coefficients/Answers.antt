use Rattle.air_field.proofs.Binomials.{given_four}
use Rattle.air_field.proofs.fields.binomial_field.BinomialExtensionExtensionFieldResidue.from_basis_coefficients.Goals as goal

pub returns : goal.returns
returns g c = given_four c.args.c.now _ _ _ _ c.requires c.index-c-0.is c.index-c-1.is c.index-c-2.is c.index-c-3.is
