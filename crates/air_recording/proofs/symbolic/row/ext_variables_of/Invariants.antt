use Rattle.air_recording.specs.Rows.{IsExtRowOf}
use Rattle.air_recording.proofs.symbolic.row.ext_variables_of.Given as goal

abbrev pub invariant-loop-i : goal.invariant-loop-i
invariant-loop-i g l = IsExtRowOf l.entry l.i l.row.items
