-- Sums over the rows. A chain of any other function is `fold` of the standard library, over the rows.
use Rattle.std.specs.Prelude.{ℕ, List, fold, slice_index_or}
use Rattle.air_field.specs.Ring.{CommRing}

-- the sum of a column over the rows; an entry that a row lacks counts as zero
abbrev pub column_sum : {F : Type 0} → CommRing F → ℕ → List (List F) → F
column_sum R column rows = fold (λ total row. R.add total (slice_index_or row column R.zero)) R.zero rows
