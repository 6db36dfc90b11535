use Rattle.std.proofs.Common.{◌≡◌, ℕ, ◌<◌, ◌≤◌, length, slice_index_or, Vec, Global}
use Rattle.air_core.proofs.periodic.greatest_period.Given as goal

abbrev pub invariant-loop-column : goal.invariant-loop-column
invariant-loop-column g l = ((k : ℕ) (d : Vec g.row.T.Denot Global) → k < l.column-index → length (slice_index_or l.columns k d).items ≤ l.greatest)
    × (0 < l.greatest → (k : ℕ) × (k < l.column-index) × ((d : Vec g.row.T.Denot Global) → length (slice_index_or l.columns k d).items ≡ l.greatest))
