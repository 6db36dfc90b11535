use Rattle.std.proofs.Common.{string_bytes}
use Rattle.air_program.specs.Texts.{count_lines, found_in}
use Rattle.air_program.proofs.TextLemmas.{HasLines}
use Rattle.air_program.proofs.texts.findings_text.Given as goal

abbrev pub invariant-loop-failure : goal.invariant-loop-failure
invariant-loop-failure g l = HasLines (count_lines (found_in l.audit)) l.audit.report.failures.items l.failure-index (string_bytes l.text)
