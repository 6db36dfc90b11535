use Rattle.std.proofs.Common.{◌≤◌, ◌-◌, ◌≡◌, length}
use Rattle.std.specs.Prelude.{vec_capacity}
use Rattle.air_tape.proofs.tape.new_row.Given as goal

abbrev pub invariant-loop-j : goal.invariant-loop-j
invariant-loop-j g l = (l.j ≤ l.len) × (l.len ≤ vec_capacity l.slots) × (length l.slots.items ≡ l.j)

abbrev pub decreases-loop-j : goal.decreases-loop-j
decreases-loop-j g l = l.len - l.j
