use Rattle.std.proofs.Common.{◌∙◌, ◌∷◌, []}
use Rattle.air_field.specs.laws.SamePolynomial.{same_list}
use Rattle.air_field.proofs.Binomials.{four_differences}
use Rattle.air_field.proofs.fields.binomial_field.BinomialExtensionExtensionFieldResidue.sub.Goals as goal

pub returns : goal.returns
returns g c =
    same_list _ _ ((λ i. c.sub.ensures i ∷ c.sub-2.ensures i ∷ c.sub-3.ensures i ∷ c.sub-4.ensures i ∷ [])
    ∙ four_differences c.args.self.value c.args.other.value _ _ _ _ _ _ _ _ c.args.self.four c.args.other.four)
