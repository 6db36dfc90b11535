use Rattle.std.proofs.Common.{◌≡◌, ◌-◌, length, map, take, get_or}
use Rattle.air_recording.proofs.layouts.constraint_layout.powers_at.Given as goal

abbrev pub invariant-loop-index : goal.invariant-loop-index
invariant-loop-index g l = (d : _) → l.picked.items ≡ map (λ i. get_or l.powers (length l.powers - 1 - i) d) (take l.index-index l.indices)
