use Rattle.std.proofs.Common.{◌<◌, rules}
use Rattle.std.proofs.lemmas.Result.{err_from_is_err_and}
use Rattle.air_author.proofs.Powers.{first_power, next_power, power_refused}
use Rattle.air_author.proofs.expressions.power.multiply_by_itself.Goals as goal

pub loop-done-init : goal.loop-done-init
loop-done-init g c = first_power g.met.R.Algebra.laws g.F.Field.ring.one _ _ c.requires

pub loop-done-preserved : goal.loop-done-preserved
loop-done-preserved g c = next_power g.met.R.Algebra.laws g.F.Field.ring.one _ _ _ _ _ _ _ c.loop-done.invariant c.mul.ensures.extended c.in_ok-total.ensures.made

pub returns-in_err-total-clause-refused : goal.returns-in_err-total-clause-refused
returns-in_err-total-clause-refused g c =
    let p = err_from_is_err_and c.from_residual.result c.from_residual.ensures.1 in
    let lt : c.loop-done.done < c.args.more = search rules in
    rw (p.1, p.2) (power_refused g.met.R.Algebra.laws g.F.Field.ring.one _ _ _ _ _ _ _ lt c.loop-done.invariant c.in_err-total.ensures.refused)
