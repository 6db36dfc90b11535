-- Which lists of boundary values are refused, and with which error.
use Rattle.std.specs.Prelude.{◌≡◌, ◌≢◌, ℕ, ◌-◌, ◌<◌, ◌≤◌, List, length, take, codes, All, HoldsAt}
use Rattle.air_core.specs.FirstOnes.{EachOfFirst}
use Rattle.air_core.specs.declared.boundary.BoundaryEnd.{BoundaryEnd}
use Rattle.air_core.specs.declared.boundary.BoundaryEnd.TheVariants.{First, Last}
use Rattle.air_core.specs.declared.boundary.BoundaryPublic.{BoundaryPublic}
use Rattle.air_core.specs.declared.boundary.BoundaryIoError.{BoundaryIoError}
use Rattle.air_core.specs.declared.boundary.BoundaryIoError.TheVariants.{ColumnOutOfRange, PublicValueOutOfRange, DuplicateCell}

-- the row of an end in a trace of h rows
abbrev pub row_of : BoundaryEnd → ℕ → ℕ
row_of First h = 0
row_of Last h = h - 1

-- the name of an end
abbrev pub end_text : BoundaryEnd → List ℕ
end_text First = codes "First"
end_text Last = codes "Last"

-- some cell of the list has this column and end
pub record HasCellAt (cells : List BoundaryPublic) (column : ℕ) (end : BoundaryEnd) : Type 0 where
  pub place : ℕ
  pub within : place < length cells
  pub column_is : HoldsAt (λ cell. cell.column ≡ column) cells place
  pub end_is : HoldsAt (λ cell. cell.end ≡ end) cells place

-- no cell does
abbrev pub LacksCellAt : List BoundaryPublic → ℕ → BoundaryEnd → Type 0
LacksCellAt cells column end = All (λ cell. cell.column ≡ column → cell.end ≢ end) cells

-- the cell has a column below the width, names an existing public value, and differs from the earlier cells
pub record IsSoundCell (width values : ℕ) (earlier : List BoundaryPublic) (cell : BoundaryPublic) : Type 0 where
  pub column_in : cell.column < width
  pub value_in : cell.public_value < values
  pub new_cell : LacksCellAt earlier cell.column cell.end

-- this error is the cell's first fault
abbrev pub IsFaultOf : ℕ → ℕ → List BoundaryPublic → BoundaryPublic → BoundaryIoError → Type 0
IsFaultOf width values earlier cell (ColumnOutOfRange column w) =
    (width ≤ cell.column) × (column ≡ cell.column) × (w ≡ width)
IsFaultOf width values earlier cell (PublicValueOutOfRange index n) =
    (cell.column < width) × (values ≤ cell.public_value) × (index ≡ cell.public_value) × (n ≡ values)
IsFaultOf width values earlier cell (DuplicateCell column end) =
    (cell.column < width) × (cell.public_value < values) × HasCellAt earlier cell.column cell.end
    × (column ≡ cell.column) × (end ≡ cell.end)

-- each of the first n cells is sound
abbrev pub AreSoundBelow : ℕ → ℕ → List BoundaryPublic → ℕ → Type 0
AreSoundBelow width values cells n = EachOfFirst (λ k. IsSoundCell width values (take k cells)) cells n

-- each cell is sound
abbrev pub AreSound : ℕ → ℕ → List BoundaryPublic → Type 0
AreSound width values cells = AreSoundBelow width values cells (length cells)

-- the error is that of the first cell that isn't sound
pub record IsFirstFault (width values : ℕ) (cells : List BoundaryPublic) (error : BoundaryIoError) : Type 0 where
  pub place : ℕ
  pub within : place < length cells
  pub before : AreSoundBelow width values cells place
  pub fault : HoldsAt (λ cell. IsFaultOf width values (take place cells) cell error) cells place
