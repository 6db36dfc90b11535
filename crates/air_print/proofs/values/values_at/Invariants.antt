use Rattle.std.proofs.Common.{◌≡◌, length}
use Rattle.air_field.specs.Assignment.{row_assignment}
use Rattle.air_print.specs.Rows.{trace_of}
use Rattle.air_print.specs.Values.{Known}
use Rattle.air_print.proofs.values.values_at.Given as goal

-- the values so far
abbrev pub invariant-loop-number : goal.invariant-loop-number
invariant-loop-number g l = record {
  places : length l.values.items ≡ l.number;
  known : Known g.F.Field.ring (row_assignment g.F.Field.ring (trace_of l.trace) l.row) l.pool.nodes l.marks l.number l.values.items;
}
