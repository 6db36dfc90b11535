-- Which views are windows.
use Rattle.std.specs.Prelude.{List, ◌≡◌, ◌≢◌, ◌*◌, ℕ}
use Rattle.air_core.specs.declared.errors.AirError.{AirError}
use Rattle.air_core.specs.declared.errors.AirError.TheVariants.{WindowShape}
use Rattle.air_core.specs.declared.windows.two_rows.TwoRows.{TwoRows}

-- `len` values aren't two rows of this width, and the error says so
abbrev pub IsNoWindow : ℕ → ℕ → AirError → Type 0
IsNoWindow len width e = (len ≢ 2 * width) × (e ≡ WindowShape len width)

-- the rows of a window that owns its rows
abbrev pub current_of : {T : Type 0} → TwoRows T → List T
current_of w = w.current.items

abbrev pub next_of : {T : Type 0} → TwoRows T → List T
next_of w = w.next.items
