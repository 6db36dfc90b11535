use Rattle.std.proofs.Common.{rules, arith}
use Rattle.std.proofs.lemmas.Grind.{common_steps}
use Rattle.air_report.proofs.FailureLists.{HasListed-more}
use Rattle.air_report.proofs.debug.failure.failures_text.Goals as goal
use Rattle.air_report.proofs.debug.failure.failures_text.Goals.{then-i-gt0+in_ok-push_str-2, else-i-gt0}

pub loop-i-preserved : goal.loop-i-preserved
loop-i-preserved c =
    HasListed-more _ _ _ c.if-i-gt0.text.bytes.items _ c.index-failures-i.result (omega arith) c.index-failures-i.is
    (λ later. elim c.if-i-gt0.branch [ then-i-gt0+in_ok-push_str-2 w ↦ rw (w.text-is) (search (rules, common_steps)) | else-i-gt0 w ↦ absurd (omega arith) ])
    (λ first. elim c.if-i-gt0.branch [ then-i-gt0+in_ok-push_str-2 w ↦ absurd (omega arith) | else-i-gt0 w ↦ cc ])
    c.in_ok-write.ensures.bytes c.loop-i.invariant
