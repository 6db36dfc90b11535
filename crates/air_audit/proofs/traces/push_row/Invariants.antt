use Rattle.std.proofs.Common.{◌≡◌, ◌++◌, map, take}
use Rattle.air_field.specs.Ring.{image}
use Rattle.air_audit.proofs.traces.push_row.Given as goal

-- so many were pushed
abbrev pub invariant-loop-number : goal.invariant-loop-number
invariant-loop-number g l = l.values.items ≡ l.fn.values.items ++ map (image g.F.Field.ring) (take l.number-index l.row)
