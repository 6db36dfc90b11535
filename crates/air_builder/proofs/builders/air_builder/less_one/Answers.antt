use Rattle.std.proofs.Common.{subst}
use Rattle.std.proofs.lemmas.Result.{err_from_is_err_and}
use Rattle.air_field.specs.Term.{const_term, sub_term}
use Rattle.air_field.specs.Part.{whole, in_sub_right}
use Rattle.air_builder.proofs.builders.air_builder.less_one.Goals as goal

pub returns-in_err-one-clause-refused : goal.returns-in_err-one-clause-refused
returns-in_err-one-clause-refused g c =
    let one = const_term g.F.Field.ONE in
    let p = err_from_is_err_and c.from_residual.result c.from_residual.ensures.1 in
    rw (p.1, p.2) (λ t m. g.met.R.Algebra.laws.refuses_whole c.in_err-one.field-0.0 one (sub_term t one) (in_sub_right whole) (subst (λ o. g.R.Algebra.refuses c.in_err-one.field-0.0 (const_term o)) c.ONE.ensures c.in_err-one.ensures.refused))
