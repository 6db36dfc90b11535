-- Tables of degrees by the numbers of a pool.
use Rattle.std.specs.Prelude.{◌≡◌, ℕ, ◌<◌, ◌-◌, ◌^◌, min, List, length, slice_index_or}

-- a degree in 128 bits: a greater one counts as the greatest
abbrev pub capped : ℕ → ℕ
capped d = min d (2 ^ 128 - 1)

-- The table has n entries, and entry i is the degree of number i.
pub record AreDegrees (degree : ℕ → ℕ) (n : ℕ) (table : List ℕ) : Type 0 where
  pub places : length table ≡ n
  pub each : (i : ℕ) → i < n → slice_index_or table i 0 ≡ capped (degree i)
