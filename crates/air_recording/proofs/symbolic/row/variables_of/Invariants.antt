use Rattle.air_recording.specs.Rows.{IsRowOf}
use Rattle.air_recording.proofs.symbolic.row.variables_of.Given as goal

abbrev pub invariant-loop-i : goal.invariant-loop-i
invariant-loop-i g l = IsRowOf l.entry l.i l.row.items
