use Rattle.std.proofs.Common.{ap, Some}
use Rattle.p3_air.proofs.DraftChanges.{none_before, with_notes}
use Rattle.p3_air.proofs.handles.constraints.Constraints.under.Goals as goal

pub returns : goal.returns
returns c = let w = c.condition.ensures.written in
    (ap (with_notes c.args.self.now) w.others, λ none. (none_before _ _ _ w.fault none, ap Some c.condition.ensures.number, w.conditions none))
