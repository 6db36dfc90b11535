use Rattle.std.proofs.Common.{◌≤◌, ◌-◌, ◌≡◌, length}
use Rattle.std.specs.Prelude.{vec_capacity}
use Rattle.air_tape.specs.Tapes.{Numbered}
use Rattle.air_tape.proofs.tape.new_buckets.Given as goal

abbrev pub invariant-loop-k : goal.invariant-loop-k
invariant-loop-k g l = (l.k ≤ 58) × (58 ≤ vec_capacity l.slots) × (length l.slots.items ≡ l.k) × Numbered l.slots.items

abbrev pub decreases-loop-k : goal.decreases-loop-k
decreases-loop-k g l = 58 - l.k
