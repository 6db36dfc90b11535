use Rattle.air_field.specs.Ring.{image}
use Rattle.air_audit.proofs.Rows.{Pushed}
use Rattle.air_audit.proofs.traces.trace_of_rows.Given as goal

abbrev pub invariant-loop-row : goal.invariant-loop-row
invariant-loop-row g l = Pushed (image g.F.Field.ring) g.row.N l.rows l.row-index l.values.items
