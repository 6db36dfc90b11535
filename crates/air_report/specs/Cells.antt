-- Boundary values of a trace: which of them are violated, and how these are listed.
use Rattle.std.specs.Prelude.{◌≡◌, ◌≢◌, ℕ, ◌+◌, ◌-◌, ◌<◌, ◌≤◌, ◌^◌, List, [], ◌++◌, length, map, take, Bool, true}
use Rattle.std.specs.Prelude.{false, not, Option, None, Some, String, codes, decimal, string_bytes, slice_get}
use Rattle.std.specs.Prelude.{slice_index_or, HoldsAt}
use Rattle.std.specs.Global.{Global}
use Rattle.std.specs.List.{filter, enumerate_from}
use Rattle.air_field.specs.Ring.{CommRing}
use Rattle.air_field.specs.Grid.{Grid}
use Rattle.air_field.specs.Assignment.{row_or_none}
use Rattle.air_core.specs.FirstOnes.{EachOfFirst}
use Rattle.air_core.specs.Boundary.{row_of, AreSound, IsFirstFault}
use Rattle.air_core.specs.declared.boundary.BoundaryPublic.{BoundaryPublic}
use Rattle.air_core.specs.declared.errors.AirError.{AirError}
use Rattle.air_core.specs.declared.errors.AirError.TheVariants.{Boundary, EmptyTrace}
use Rattle.air_report.specs.Report.{failure_place}
use Rattle.air_report.specs.declared.debug.failure.ConstraintFailure.{ConstraintFailure}

-- the value in a cell of the trace; z if there is no such cell
abbrev pub cell_value : {F : Type 0} → F → Grid F → BoundaryPublic → F
cell_value z main cell = slice_index_or (row_or_none (slice_get main.rows (row_of cell.end (length main.rows)))) cell.column z

-- the boundary value is violated: its cell doesn't hold the public value
abbrev pub is_violated : {F : Type 0} → CommRing F → (F → F → Bool) → Grid F → List F → BoundaryPublic → Bool
is_violated r eq main public cell = not (eq (cell_value r.zero main cell) (slice_index_or public cell.public_value r.zero))

-- the violated boundary values, each with its index in the list
abbrev pub violated_cells : {F : Type 0} → CommRing F → (F → F → Bool) → Grid F → List F → List BoundaryPublic → List (ℕ × BoundaryPublic)
violated_cells r eq main public cells = filter (λ p. is_violated r eq main public p.1) (enumerate_from 0 cells)

-- as many of the first elements as a cap leaves after n failures
abbrev pub take_within_cap : {X : Type 0} → Option ℕ → ℕ → List X → List X
take_within_cap None n xs = xs
take_within_cap (Some cap) n xs = take (cap - n) xs

-- the row and constraint index of a boundary value's failure, for h rows and `count` constraints a row
abbrev pub cell_place : ℕ → ℕ → ℕ × BoundaryPublic → ℕ × ℕ
cell_place h count p = (row_of p.1.end h, count + p.0)

abbrev pub cell_label : BoundaryPublic → List ℕ
cell_label cell = codes "boundary-IO cell in column " ++ (decimal cell.column ++ (codes " does not hold public value " ++ decimal cell.public_value))

-- the text of a failure's label, if it has one
abbrev pub bytes_of_text : Option (String Global) → Option (List ℕ)
bytes_of_text None = None
bytes_of_text (Some s) = Some (string_bytes s)

abbrev pub label_text : ConstraintFailure → Option (List ℕ)
label_text f = bytes_of_text f.label

-- boundary values need a trace with rows
abbrev pub HasRowsFor : ℕ → List BoundaryPublic → Type 0
HasRowsFor h cells = cells ≢ [] → 0 < h

-- the boundary values are cells of the trace, each listed once, with public values that exist, and there are rows for them
pub record CellsFit {F : Type 0} (main : Grid F) (public : List F) (cells : List BoundaryPublic) : Type 0 where
  pub sound : AreSound main.width (length public) cells
  pub rows_there : HasRowsFor (length main.rows) cells

-- the first boundary value that isn't sound, or boundary values and no rows
abbrev pub IsCellFault : {F : Type 0} → Grid F → List F → List BoundaryPublic → AirError → Type 0
IsCellFault main public cells (Boundary e) = IsFirstFault main.width (length public) cells e
IsCellFault main public cells EmptyTrace = AreSound main.width (length public) cells × (cells ≢ []) × (length main.rows ≡ 0)
IsCellFault main public cells _ = ⊥

-- each of the first n boundary values holds
abbrev pub HoldBelow : {F : Type 0} → CommRing F → (F → F → Bool) → Grid F → List F → List BoundaryPublic → ℕ → Type 0
HoldBelow r eq main public cells n = EachOfFirst (λ k cell. is_violated r eq main public cell ≡ false) cells n

-- the index of the first violated boundary value
pub record IsFirstViolated {F : Type 0} (r : CommRing F) (eq : F → F → Bool) (main : Grid F) (public : List F) (cells : List BoundaryPublic) (index : ℕ) : Type 0 where
  pub within : index < length cells
  pub before : HoldBelow r eq main public cells index
  pub violated_here : HoldsAt (λ cell. is_violated r eq main public cell ≡ true) cells index

-- One failure was added for each of these boundary values, in order, with its row, index and label.
pub record ListsCells (h count : ℕ) (cells : List (ℕ × BoundaryPublic)) (fs gs : List ConstraintFailure) : Type 0 where
  pub more : List ConstraintFailure
  pub failures : gs ≡ fs ++ more
  pub places : map failure_place more ≡ map (cell_place h count) cells
  pub labels : map label_text more ≡ map (λ p. Some (cell_label p.1)) cells

-- the constraint index of one of these boundary values, after `count` constraints, exceeds `usize`
pub record IsListedPast (count : ℕ) (cells : List (ℕ × BoundaryPublic)) : Type 0 where
  pub at : ℕ
  pub cell : ℕ × BoundaryPublic
  pub is_listed : slice_get cells at ≡ Some cell
  pub past : 2 ^ 64 ≤ count + cell.0
