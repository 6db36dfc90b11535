use Rattle.std.proofs.Common.{ap, Some}
use Rattle.p3_air.proofs.DraftChanges.{none_before, with_notes}
use Rattle.p3_air.proofs.handles.constraints.Constraints.index_label.Goals as goal

pub returns-in-Some : goal.returns-in-Some
returns-in-Some c = let w = c.index_label.ensures.written in
    rw c.in-Some.is (ap (with_notes c.args.self.now) w.others, λ none. (none_before _ _ _ w.fault none, ap Some c.index_label.ensures.number, rw c.in-Some.is at (w.labels none)))
