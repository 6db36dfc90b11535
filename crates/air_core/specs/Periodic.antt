-- Periodic columns by row.
use Rattle.std.specs.Prelude.{◌≡◌, ℕ, ◌%◌, ◌*◌, ◌<◌, ◌≤◌, ◌++◌, List, [], length, map, slice_get, Option, Some, None, Result, Ok, Err, Vec, All, HoldsAt, ⊤}
use Rattle.std.specs.List.{range_with_len}
use Rattle.air_field.specs.Grid.{Grid, rows_of}
use Rattle.air_core.specs.FirstOnes.{EachOfFirst}
use Rattle.air_core.specs.declared.errors.AirError.{AirError}
use Rattle.air_core.specs.declared.errors.AirError.TheVariants.{Memory, EmptyPeriodicColumn}

-- the column's value at the row; an empty column has none
abbrev pub column_at : {T A : Type 0} → ℕ → Vec T A → Option T
column_at row column = slice_get column.items (row % length column.items)

-- new is old, followed by one value for each column
pub record HasRows {T C : Type 0} (old : List T) (columns : List C) (at_row : C → Option T) (new : List T) : Type 0 where
  pub added : List T
  pub after : new ≡ old ++ added
  pub each : map Some added ≡ map at_row columns

-- this is the index of the first empty column
pub record IsFirstEmpty {T A : Type 0} (columns : List (Vec T A)) (index : ℕ) : Type 0 where
  pub within : index < length columns
  pub is_empty : HoldsAt (λ column. length column.items ≡ 0) columns index
  pub before : EachOfFirst (λ k column. 0 < length column.items) columns index

-- the error is `Memory`, or names the first empty column
abbrev pub RefusesPeriodicRow : {T A : Type 0} → List (Vec T A) → AirError → Type 0
RefusesPeriodicRow columns Memory = ⊤
RefusesPeriodicRow columns (EmptyPeriodicColumn index) = IsFirstEmpty columns index
RefusesPeriodicRow columns _ = ⊥

-- each column's value at the row, or an error that `RefusesPeriodicRow` allows
abbrev pub MatchPeriodicValues : {T A : Type 0} → List (Vec T A) → ℕ → Result (Vec T A) AirError → Type 0
MatchPeriodicValues columns row (Ok values) = map Some values.items ≡ map (column_at row) columns
MatchPeriodicValues columns row (Err e) = RefusesPeriodicRow columns e

-- the height is the greatest period, or 0 if there are no columns
pub record IsGreatestPeriod {T A : Type 0} (columns : List (Vec T A)) (height : ℕ) : Type 0 where
  pub bounds : All (λ column. length column.items ≤ height) columns
  pub reached : 0 < height → (k : ℕ) × (k < length columns) × HoldsAt (λ column. length column.items ≡ height) columns k

-- the values of the first h rows
abbrev pub rows_below : {T A : Type 0} → List (Vec T A) → ℕ → List (List (Option T))
rows_below columns h = map (λ row. map (column_at row) columns) (range_with_len 0 h)

-- the error is `Memory`, or names the first empty column, and another one isn't empty
abbrev pub RefusesPeriodicMatrix : {T A : Type 0} → List (Vec T A) → AirError → Type 0
RefusesPeriodicMatrix columns Memory = ⊤
RefusesPeriodicMatrix columns (EmptyPeriodicColumn index) = IsFirstEmpty columns index × ((h : ℕ) × IsGreatestPeriod columns h × (0 < h))
RefusesPeriodicMatrix columns _ = ⊥

-- the columns as a matrix, None if there are none, or an error that `RefusesPeriodicMatrix` allows
abbrev pub MatchPeriodicMatrix : {T A : Type 0} → List (Vec T A) → Result (Option (Grid T)) AirError → Type 0
MatchPeriodicMatrix columns (Ok None) = columns ≡ []
MatchPeriodicMatrix columns (Ok (Some grid)) = (grid.width ≡ length columns) × (0 < length columns)
    × IsGreatestPeriod columns (length grid.rows) × (map (λ row. map Some row) grid.rows ≡ rows_below columns (length grid.rows))
MatchPeriodicMatrix columns (Err e) = RefusesPeriodicMatrix columns e

-- the values are those of the first h rows
pub record HasGridRows {T A : Type 0} (columns : List (Vec T A)) (h : ℕ) (values : List T) : Type 0 where
  pub count : length values ≡ h * length columns
  pub each : map (λ row. map Some row) (rows_of h (length columns) values) ≡ rows_below columns h
