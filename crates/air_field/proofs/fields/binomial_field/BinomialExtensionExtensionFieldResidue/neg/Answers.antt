use Rattle.std.proofs.Common.{◌∙◌, ◌∷◌, []}
use Rattle.air_field.specs.laws.SamePolynomial.{same_list}
use Rattle.air_field.proofs.Binomials.{four_negatives}
use Rattle.air_field.proofs.fields.binomial_field.BinomialExtensionExtensionFieldResidue.neg.Goals as goal

pub returns : goal.returns
returns g c =
    same_list _ _ ((λ i. c.neg.ensures i ∷ c.neg-2.ensures i ∷ c.neg-3.ensures i ∷ c.neg-4.ensures i ∷ [])
    ∙ four_negatives c.args.self.value _ _ _ _ c.args.self.four)
