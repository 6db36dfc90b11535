use Rattle.std.proofs.Common.{arith, inl}
use Rattle.std.proofs.lemmas.Result.{err_from_is_err_and}
use Rattle.air_field.specs.Part.{whole, in_sub_right, in_mul_right}
use Rattle.air_builder.specs.laws.Batches.{evaluates}
use Rattle.air_author.specs.Handing.{made_lasts, making_refused, made_then}
use Rattle.test_airs.proofs.handed.assert_handed.Goals as goal

pub returns-in_err-x : goal.returns-in_err-x
returns-in_err-x g c =
    let p = err_from_is_err_and c.from_residual.result c.from_residual.ensures.1 in
    rw (p.1, p.2)
    (evaluates _ (making_refused g.met.AB.AirBuilder.laws _ _ _ _ _ (omega arith) (inl (in_mul_right (in_sub_right whole))) c.in_err-x.ensures))

pub next_is-requires-clause-usable : goal.next_is-requires-clause-usable
next_is-requires-clause-usable g c = made_lasts g.met.AB.Ring.Algebra.laws g.met.AB.AirBuilder.laws _ _ _ _ c.in_ok-x.ensures

pub returns : goal.returns
returns g c = evaluates _ (made_then g.met.AB.AirBuilder.laws _ _ _ _ _ _ _ c.in_ok-x.ensures c.next_is.ensures)
