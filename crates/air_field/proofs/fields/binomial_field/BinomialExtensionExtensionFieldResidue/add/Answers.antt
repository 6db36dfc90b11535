use Rattle.std.proofs.Common.{◌∙◌, ◌∷◌, []}
use Rattle.air_field.specs.laws.SamePolynomial.{same_list}
use Rattle.air_field.proofs.Binomials.{four_sums}
use Rattle.air_field.proofs.fields.binomial_field.BinomialExtensionExtensionFieldResidue.add.Goals as goal

pub returns : goal.returns
returns g c =
    same_list _ _ ((λ i. c.add.ensures i ∷ c.add-2.ensures i ∷ c.add-3.ensures i ∷ c.add-4.ensures i ∷ [])
    ∙ four_sums c.args.self.value c.args.other.value _ _ _ _ _ _ _ _ c.args.self.four c.args.other.four)
