use Rattle.std.proofs.Common.{string_bytes}
use Rattle.air_report.proofs.FailureLists.{HasListed}
use Rattle.air_report.proofs.debug.failure.failures_text.Given as goal

abbrev pub invariant-loop-i : goal.invariant-loop-i
invariant-loop-i l = HasListed l.failures l.i (string_bytes l.text)
