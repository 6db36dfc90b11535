use Rattle.std.proofs.Common.{◌∙◌, [], ◌∷◌, get_or, refl, sym}
use Rattle.air_field.proofs.Adjugates.{by_conjugate}
use Rattle.air_field.proofs.Binomials.{given_four}
use Rattle.air_field.proofs.fields.binomial.BinomialExtension.adjugate.Goals as goal

pub returns : goal.returns
returns g c =
    let v = c.args.self.value in
    let a = get_or v 0 c.index-self-0.result in
    let b = get_or v 1 c.index-self-1.result in
    let d = get_or v 3 c.index-self-3.result in
    let third = get_or v 2 c.index-self-2.result in
    let even = get_or c.mul.result.value 0 c.index-mul-0.result in
    let odd = get_or c.mul.result.value 2 c.index-mul-2.result in
    by_conjugate g.M.Modulus g.M.BinomialModulus.W g.met.M.BinomialModulus.no_square c.args.self _ c.mul.result _ c.mul-2.result
    a b third d even odd c.index-mul-0.result c.index-mul-2.result
    (sym (λ i. c.index-self-0.is i ∷ c.index-self-1.is i ∷ c.index-self-2.is i ∷ c.index-self-3.is i ∷ [])
    ∙ given_four v _ _ _ _ c.args.self.four c.index-self-0.is c.index-self-1.is c.index-self-2.is c.index-self-3.is)
    (λ i. a ∷ c.neg.ensures i ∷ third ∷ c.neg-2.ensures i ∷ [])
    c.mul.ensures.product refl refl
    (λ i. even ∷ c.ZERO-zero.ensures i ∷ c.neg-3.ensures i ∷ c.ZERO-zero.ensures i ∷ [])
    c.mul-2.ensures.product
