use Rattle.std.proofs.Common.{◌≡◌, ℕ, max, drop, length, map}
use Rattle.air_symbolic.specs.DegreeTables.{capped, AreDegrees}
use Rattle.air_recording.specs.Inferred.{greatest_in}
use Rattle.air_recording.proofs.symbolic.degree.greatest_at.Given as goal

abbrev pub invariant-loop-number : goal.invariant-loop-number
invariant-loop-number g l =
    (degree : ℕ → ℕ) → AreDegrees degree (length l.table.degrees.items) l.table.degrees.items
    → max l.greatest (capped (greatest_in (map degree (drop l.number-index l.numbers)))) ≡ capped (greatest_in (map degree l.numbers))
