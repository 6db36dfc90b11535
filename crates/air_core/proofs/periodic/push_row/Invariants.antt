use Rattle.std.proofs.Common.{ℕ, ◌<◌, length, slice_index_or, take, Vec, Global}
use Rattle.air_core.specs.Periodic.{column_at, HasRows}
use Rattle.air_core.proofs.periodic.push_row.Given as goal

abbrev pub invariant-loop-index : goal.invariant-loop-index
invariant-loop-index g l = HasRows l.initial.values.items (take l.index l.columns) (column_at l.row) l.values.items
    × ((k : ℕ) (d : Vec g.row.T.Denot Global) → k < l.index → 0 < length (slice_index_or l.columns k d).items)
