-- The selectors of a row.
use Rattle.std.specs.Prelude.{ℕ, ◌+◌, ◌==◌, if◌then◌else◌}
use Rattle.air_field.specs.Ring.{CommRing}
use Rattle.air_field.specs.Assignment.{selector}
use Rattle.air_core.specs.declared.selectors.Selectors.{Selectors}

-- the selectors at row i of h: the first two are one on their row and zero elsewhere, the third zero on the last row
-- and one elsewhere
abbrev pub row_selectors : {F : Type 0} → CommRing F → ℕ → ℕ → Selectors F
row_selectors r i h = record {
  is_first_row = selector r (i == 0);
  is_last_row = selector r (i + 1 == h);
  is_transition = if i + 1 == h then r.zero else r.one;
}
