use Rattle.std.proofs.Common.{subst}
use Rattle.std.proofs.lemmas.Result.{err_from_is_err_and}
use Rattle.air_field.specs.Term.{const_term, sub_term, mul_term}
use Rattle.air_field.specs.Part.{whole, in_mul_right, in_sub_right}
use Rattle.air_field.proofs.rings.algebra.Algebra.bool_check.Goals as goal

pub returns-in_err-one-clause-refused : goal.returns-in_err-one-clause-refused
returns-in_err-one-clause-refused g c =
    let laws = g.met.Self.Algebra.laws in
    let one = const_term g.F.Field.ONE in
    let p = err_from_is_err_and c.from_residual.result c.from_residual.ensures.1 in
    rw (p.1, p.2) (λ t m. laws.refuses_whole c.in_err-one.field-0.0 one (mul_term t (sub_term t one)) (in_mul_right (in_sub_right whole)) (subst (λ o. g.Self.Algebra.refuses c.in_err-one.field-0.0 (const_term o)) c.ONE.ensures c.in_err-one.ensures.refused))

pub returns-in_err-less-clause-refused : goal.returns-in_err-less-clause-refused
returns-in_err-less-clause-refused g c =
    let laws = g.met.Self.Algebra.laws in
    let one = const_term g.F.Field.ONE in
    let p = err_from_is_err_and c.from_residual-in_err-less.result c.from_residual-in_err-less.ensures.1 in
    rw (p.1, p.2)
    (λ t m. laws.refuses_whole c.in_err-less.field-0.0 (sub_term t one) (mul_term t (sub_term t one)) (in_mul_right whole)
    (c.in_err-less.ensures.refused t one (laws.means_stays _ _ _ t c.constant.ensures.extended m) (subst (λ o. g.Self.Algebra.means c.constant.new.self c.in_ok-one.one (const_term o)) c.ONE.ensures c.in_ok-one.ensures.made.1)))
