use Rattle.std.proofs.Common.{◌∙◌, subst, sym, ap}
use Rattle.air_field.specs.Binomial.{binomial_over, binomial_product}
use Rattle.air_field.specs.Domain.{IsInversion}
use Rattle.air_field.specs.Residue.{residue_ring}
use Rattle.air_field.specs.laws.Binomial.{binomial_over_laws}
use Rattle.air_field.proofs.Adjugates.{by_norm, read_norm}
use Rattle.air_field.proofs.fields.binomial_field.BinomialExtensionDomainExtensionResidue.try_inverse.Goals as goal

pub returns-in-None : goal.returns-in-None
returns-in-None g c =
    let adjugate = c.adjugate-adjugate.ensures in
    adjugate.2 (sym (read_norm c.mul.result _ _ c.index-mul-0.is (c.mul.ensures.product ∙ adjugate.1))
    ∙ subst (IsInversion (residue_ring g.M.Modulus) c.index-mul-0.result) c.in-None.is
    (subst (λ n. IsInversion (residue_ring g.M.Modulus) n c.try_inverse.result) (sym c.index-mul-0.is) c.try_inverse.ensures))

pub returns-in-Some : goal.returns-in-Some
returns-in-Some g c =
    let adjugate = c.adjugate-adjugate.ensures in
    let inverse = subst (IsInversion (residue_ring g.M.Modulus) c.index-mul-0.result) c.in-Some.is
    (subst (λ n. IsInversion (residue_ring g.M.Modulus) n c.try_inverse.result) (sym c.index-mul-0.is) c.try_inverse.ensures) in
    ap (binomial_product g.M.BinomialModulus.W c.args.self)
    (c.mul-in-Some.ensures.product ∙ ap (binomial_product g.M.BinomialModulus.W c.adjugate-adjugate.result) c.from_base.ensures)
    ∙ by_norm (residue_ring g.M.Modulus) (binomial_over g.M.Modulus g.M.BinomialModulus.W) (binomial_over_laws g.M.Modulus g.M.BinomialModulus.W)
    adjugate.0 c.in-Some.inverse c.args.self c.adjugate-adjugate.result adjugate.1
    (ap (λ n. (residue_ring g.M.Modulus).mul n c.in-Some.inverse) (sym (read_norm c.mul.result _ _ c.index-mul-0.is (c.mul.ensures.product ∙ adjugate.1))) ∙ inverse)
