-- The row of a debug builder.
use Rattle.std.specs.Prelude.{◌≡◌, ℕ, List, Option, is_some, None, [], Vec}
use Rattle.std.specs.Global.{Global}
use Rattle.air_field.specs.declared.matrices.view.ViewPair.{ViewPair}
use Rattle.air_builder.specs.PermutationRows.{permutation_data}
use Rattle.air_report.specs.Debug.{RowData, row_data}
use Rattle.air_report.specs.declared.debug.builder.DebugConstraintBuilder.{DebugConstraintBuilder}
use Rattle.air_report.specs.declared.debug.failure.ConstraintFailure.{ConstraintFailure}
use Rattle.air_report.specs.declared.debug.row.Row.{Row}
use Rattle.air_core.specs.declared.selectors.Selectors.{Selectors}

abbrev pub debug_row : {F E : Type 0} → DebugConstraintBuilder F E → RowData F E
debug_row b = row_data b.row.index b.row.main.top.values.now b.row.main.bottom.values.now
    b.row.preprocessed.current.now b.row.preprocessed.next.now b.periodic_row.items
    b.row.public_values.now b.row.selectors.is_first_row b.row.selectors.is_last_row
    b.row.selectors.is_transition (is_some b.permutation)
    (permutation_data b.permutation b.permutation_challenges.now b.permutation_values.now)

-- the failures that a builder keeps
abbrev pub failures_of : {F E : Type 0} → DebugConstraintBuilder F E
    → Vec ConstraintFailure Global
failures_of b = b.failures

-- the number of assertions that it has counted
abbrev pub count_of : {F E : Type 0} → DebugConstraintBuilder F E → ℕ
count_of b = b.constraint_index

-- the two rows of its permutation trace, if it has one
abbrev pub permutation_of : {F E : Type 0} → DebugConstraintBuilder F E → Option (ViewPair E)
permutation_of b = b.permutation

-- the builder with its counter at a number
abbrev pub counted_from : {F E : Type 0} → DebugConstraintBuilder F E → ℕ
    → DebugConstraintBuilder F E
counted_from b count = record b { constraint_index = count }

-- A row of this index holds the pairs of rows, the public values and the selectors from which it was made.
pub record IsRow {F : Type 0} (i : ℕ) (main_rows table_rows : ViewPair F) (public : List F)
    (selected : Selectors F) (row : Row F) : Type 0 where
  pub index : row.index ≡ i
  pub main : row.main ≡ main_rows
  pub preprocessed : row.preprocessed.current.now ≡ table_rows.top.values.now
  pub preprocessed_next : row.preprocessed.next.now ≡ table_rows.bottom.values.now
  pub public_values : row.public_values.now ≡ public
  pub selectors : row.selectors ≡ selected

-- The builder is at the row, with this periodic row and this permutation data. It has counted nothing, and has the
-- failures of the rows before.
pub record IsMovedTo {F E : Type 0} (at : Row F) (periodic : Vec F Global) (others : Option (ViewPair E))
    (challenges exposed : List E) (before : List ConstraintFailure) (b : DebugConstraintBuilder F E) : Type 0 where
  pub row : b.row ≡ at
  pub periodic_row : b.periodic_row ≡ periodic
  pub permutation : b.permutation ≡ others
  pub permutation_challenges : b.permutation_challenges.now ≡ challenges
  pub permutation_values : b.permutation_values.now ≡ exposed
  pub constraint_index : b.constraint_index ≡ 0
  pub failures : b.failures.items ≡ before

-- the same without permutation data
abbrev pub StandsAt : {F E : Type 0} → Row F → Vec F Global → List ConstraintFailure → DebugConstraintBuilder F E → Type 0
StandsAt at periodic before b = IsMovedTo at periodic None [] [] before b

-- The builder is at the row of this index, and holds the given pairs of rows, values and permutation data. It has counted
-- nothing, and has the failures of the rows before.
pub record IsAtRow {F E : Type 0} (row : ℕ) (main_rows table_rows : ViewPair F) (public : List F) (first last transition : F) (periodic : Vec F Global)
    (others : Option (ViewPair E)) (challenges exposed : List E) (before : List ConstraintFailure) (b : DebugConstraintBuilder F E) : Type 0 where
  pub row_index : b.row.index ≡ row
  pub main : b.row.main ≡ main_rows
  pub preprocessed : b.row.preprocessed.current.now ≡ table_rows.top.values.now
  pub preprocessed_next : b.row.preprocessed.next.now ≡ table_rows.bottom.values.now
  pub public_values : b.row.public_values.now ≡ public
  pub is_first_row : b.row.selectors.is_first_row ≡ first
  pub is_last_row : b.row.selectors.is_last_row ≡ last
  pub is_transition : b.row.selectors.is_transition ≡ transition
  pub periodic_row : b.periodic_row ≡ periodic
  pub permutation : b.permutation ≡ others
  pub permutation_challenges : b.permutation_challenges.now ≡ challenges
  pub permutation_values : b.permutation_values.now ≡ exposed
  pub constraint_index : b.constraint_index ≡ 0
  pub failures : b.failures.items ≡ before
