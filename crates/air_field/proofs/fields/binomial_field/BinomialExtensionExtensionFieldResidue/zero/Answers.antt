use Rattle.std.proofs.Common.{◌∷◌, []}
use Rattle.air_field.specs.laws.SamePolynomial.{same_list}
use Rattle.air_field.proofs.fields.binomial_field.BinomialExtensionExtensionFieldResidue.zero.Goals as goal

pub returns : goal.returns
returns g c = same_list _ _ (λ i. c.ZERO.ensures i ∷ c.ZERO.ensures i ∷ c.ZERO.ensures i ∷ c.ZERO.ensures i ∷ [])
