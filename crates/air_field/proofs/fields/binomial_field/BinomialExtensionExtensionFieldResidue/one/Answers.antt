use Rattle.std.proofs.Common.{◌∷◌, []}
use Rattle.air_field.specs.laws.SamePolynomial.{same_list}
use Rattle.air_field.proofs.fields.binomial_field.BinomialExtensionExtensionFieldResidue.one.Goals as goal

pub returns : goal.returns
returns g c = same_list _ _ (λ i. c.ONE.ensures i ∷ c.ZERO.ensures i ∷ c.ZERO-2.ensures i ∷ c.ZERO-3.ensures i ∷ [])
