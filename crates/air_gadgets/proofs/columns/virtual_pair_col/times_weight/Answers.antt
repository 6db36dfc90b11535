use Rattle.std.proofs.lemmas.Result.{err_from_is_err_and}
use Rattle.air_field.specs.Term.{const_term}
use Rattle.air_field.specs.Part.{whole, in_mul_right}
use Rattle.air_field.specs.Algebra.{scaled_term}
use Rattle.air_gadgets.proofs.columns.virtual_pair_col.times_weight.Goals as goal

pub returns-in_err-scale-clause-refused : goal.returns-in_err-scale-clause-refused
returns-in_err-scale-clause-refused g c =
    let p = err_from_is_err_and c.from_residual.result c.from_residual.ensures.1 in
    rw (p.1, p.2)
    (λ t m. g.met.R.Algebra.laws.refuses_whole c.in_err-scale.field-0.0 (const_term c.args.weight) (scaled_term c.args.weight t) (in_mul_right whole) c.in_err-scale.ensures.refused)

pub mul-requires : goal.mul-requires
mul-requires g c = record {
  x_in = g.met.R.Algebra.laws.has_stays c.args.ring.now c.constant.new.self c.args.x c.constant.ensures.extended c.requires;
  y_in = c.in_ok-scale.ensures.made.0;
}

pub returns-in_err-scale-clause-extended : goal.returns-in_err-scale-clause-extended
returns-in_err-scale-clause-extended g c = c.constant.ensures.extended

pub returns-clause-extended : goal.returns-clause-extended
returns-clause-extended g c = g.met.R.Algebra.laws.joined c.args.ring.now c.constant.new.self c.mul.new.self c.constant.ensures.extended c.mul.ensures.extended
