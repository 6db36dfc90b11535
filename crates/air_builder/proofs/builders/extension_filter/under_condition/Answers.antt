use Rattle.std.proofs.lemmas.Result.{err_from_is_err_and}
use Rattle.air_field.specs.Part.{whole, in_mul_right}
use Rattle.air_field.specs.Term.{mul_term}
use Rattle.air_builder.proofs.builders.extension_filter.under_condition.Goals as goal

pub returns-in_err-lifted-clause-refused : goal.returns-in_err-lifted-clause-refused
returns-in_err-lifted-clause-refused g c =
    let p = err_from_is_err_and c.from_residual.result c.from_residual.ensures.1 in
    rw (p.1, p.2)
    (λ s t k m. g.met.R.Algebra.laws.refuses_whole c.in_err-lifted.field-0.0 s (mul_term t s) (in_mul_right whole) (c.in_err-lifted.ensures.refused s k))
