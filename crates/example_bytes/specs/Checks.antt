-- How few challenges let a trace pass in which some value isn't a byte.
use Rattle.std.specs.Prelude.{◌≡◌, ◌≢◌, ℕ, ◌<◌, Bool, length}
use Rattle.air_field.specs.Distinct.{AtMost}
use Rattle.air_field.specs.Ring.{AlgebraOver, image}
use Rattle.p3_air.specs.Author.{CommRing, current}
use Rattle.p3_air.specs.Claims.{Grid}
use Rattle.air_lookup.specs.Theorem.{on_row, PassesAt}
use Rattle.example_bytes.specs.Bytes.{bytes_instance}

-- A trace has 256 rows, fewer than the characteristic p. If some row's value is the image of no number below 256, at most
-- 512 challenges pass.
abbrev pub BytesAreSound : {F E : Type 0} → CommRing F → AlgebraOver F E → (F → F → Bool) → (E → E → Bool) → ℕ → Grid F → Type 0
BytesAreSound r a eq ext_eq p trace =
    length trace.rows ≡ 256 → 256 < p → (row : ℕ) → row < 256
    → ((n : ℕ) → n < 256 → on_row r (bytes_instance r trace) row (current 0) ≢ image r n)
    → AtMost (λ alpha. PassesAt r a eq ext_eq (bytes_instance r trace) 0 alpha) 512
