use Rattle.std.proofs.Common.{string_bytes, subst}
use Rattle.air_print.specs.Labels.{StandsBehind}
use Rattle.air_print.proofs.LabelLemmas.{shown-more}
use Rattle.air_print.proofs.labels.shown_labels.Goals as goal

pub loop-label-preserved : goal.loop-label-preserved
loop-label-preserved c =
    rw c.in_ok-push.ensures.items
    (shown-more c.args.labels.now c.loop-label.shown.items c.loop-label.label-index c.label-item.result c.in_ok-text_behind.field-0 c.loop-label-test.true c.label-item.is c.loop-label.invariant
    (subst (λ label. StandsBehind label (string_bytes c.in_ok-text_behind.field-0)) c.deref.ensures c.in_ok-text_behind.ensures))
