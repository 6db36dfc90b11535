-- The constraints of one counter, and of two side by side.
use Rattle.std.specs.Prelude.{ℕ, List, ◌++◌}
use Rattle.p3_air.specs.Author.{CommRing, Assertion, current, next, first_row, last_row, transition}
use Rattle.p3_air.specs.Author.{◌⊕◌, ◌≐◌, is_zero, boolean, when, move_columns}

-- the bit is a bit; the count begins at zero, and rises by the bit
unfoldable pub one_counter : {F : Type 0} → CommRing F → List (Assertion F)
one_counter R =
    let bit : ℕ = 0 in
    let count : ℕ = 1 in
    boolean R.one (current bit) ++
    when first_row (is_zero (current count)) ++
    when transition (next count ≐ current count ⊕ current bit)

-- one counter in columns 0 and 1, another in columns 2 and 3, and equal counts on the last row
abbrev pub counters : {F : Type 0} → CommRing F → List (Assertion F)
counters R = move_columns 0 (one_counter R) ++ (move_columns 2 (one_counter R) ++ when last_row (current 1 ≐ current 3))
