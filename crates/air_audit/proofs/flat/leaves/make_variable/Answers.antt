use Rattle.std.proofs.Common.{◌<◌, arith, inl, inr, ap}
use Rattle.air_core.specs.Entries.{entry_leaf}
use Rattle.air_audit.proofs.Making.{past_window_refused}
use Rattle.air_audit.proofs.flat.leaves.make_variable.Goals as goal

pub returns-in_default : goal.returns-in_default
returns-in_default g c =
    let past : 1 < c.in-Preprocessed.offset = omega arith in
    past_window_refused g.met.AB.AirBuilder.laws _ _ _ (past, c.args.variable.index, inl (ap (λ e. entry_leaf e c.args.variable.index) c.in-Preprocessed.is))

pub returns-in_default-offset : goal.returns-in_default-offset
returns-in_default-offset g c =
    let past : 1 < c.in-Main.offset = omega arith in
    past_window_refused g.met.AB.AirBuilder.laws _ _ _ (past, c.args.variable.index, inr (ap (λ e. entry_leaf e c.args.variable.index) c.in-Main.is))
