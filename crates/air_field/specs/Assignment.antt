-- The values of the leaves at a row of a trace, and which leaves have no entry.
use Rattle.std.specs.Prelude.{ℕ, zero, suc, ◌+◌, ◌%◌, ◌≤◌, ◌==◌, Bool, ⊤, List, [], map, length, Option, Some, None, slice_get, slice_index_or, if◌then◌else◌}
use Rattle.air_field.specs.Ring.{CommRing}
use Rattle.air_field.specs.Term.{Leaf, preprocessed, main, periodic, public, first_row, last_row, transition, permutation, challenge, permutation_value}
use Rattle.air_field.specs.Grid.{Grid}

-- the number of entries of each kind
pub record Shape : Type 0 where
  pub main_width : ℕ
  pub preprocessed_width : ℕ
  pub periodic_columns : ℕ
  pub public_values : ℕ
  pub permutation_width : ℕ
  pub challenges : ℕ
  pub permutation_values : ℕ

-- column i at an offset is out of range: i is not below the width, or the offset is past 1
abbrev pub IsPastRow : ℕ → ℕ → ℕ → Type 0
IsPastRow width zero i = width ≤ i
IsPastRow width (suc zero) i = width ≤ i
IsPastRow width (suc (suc o)) i = ⊤

-- the leaf has no entry: its index is out of range, or its offset is past 1
abbrev pub IsMissing : Shape → Leaf → Type 0
IsMissing s (preprocessed o i) = IsPastRow s.preprocessed_width o i
IsMissing s (main o i) = IsPastRow s.main_width o i
IsMissing s (periodic i) = s.periodic_columns ≤ i
IsMissing s (public i) = s.public_values ≤ i
IsMissing s first_row = ⊥
IsMissing s last_row = ⊥
IsMissing s transition = ⊥
IsMissing s (permutation o i) = IsPastRow s.permutation_width o i
IsMissing s (challenge i) = s.challenges ≤ i
IsMissing s (permutation_value i) = s.permutation_values ≤ i

-- the values that a builder has at one row: this row, the next one, and the values beside them
pub record RowValues (F : Type 0) : Type 0 where
  pub current : List F
  pub next : List F
  pub preprocessed_current : List F
  pub preprocessed_next : List F
  pub periodic_row : List F
  pub public_row : List F
  pub on_first_row : F
  pub on_last_row : F
  pub on_transition : F

-- column i of this row or the next one, z where there is none
abbrev pub column_value : {F : Type 0} → F → List F → List F → ℕ → ℕ → F
column_value z current next zero i = slice_index_or current i z
column_value z current next (suc zero) i = slice_index_or next i z
column_value z current next (suc (suc o)) i = z

-- the value of a leaf; a missing entry reads as z, which is zero
abbrev pub leaf_value : {F : Type 0} → F → RowValues F → Leaf → F
leaf_value z v (preprocessed o i) = column_value z v.preprocessed_current v.preprocessed_next o i
leaf_value z v (main o i) = column_value z v.current v.next o i
leaf_value z v (periodic i) = slice_index_or v.periodic_row i z
leaf_value z v (public i) = slice_index_or v.public_row i z
leaf_value z v first_row = v.on_first_row
leaf_value z v last_row = v.on_last_row
leaf_value z v transition = v.on_transition
leaf_value z v (permutation o i) = z
leaf_value z v (challenge i) = z
leaf_value z v (permutation_value i) = z

-- a whole trace: the main rows, the preprocessed rows, the periodic columns and the public values
pub record Trace (F : Type 0) : Type 0 where
  pub main_trace : Grid F
  pub preprocessed_trace : Grid F
  pub periodic_columns : List (List F)
  pub public_values : List F

abbrev pub trace_shape : {F : Type 0} → Trace F → Shape
trace_shape t = record {
  main_width = t.main_trace.width;
  preprocessed_width = t.preprocessed_trace.width;
  periodic_columns = length t.periodic_columns;
  public_values = length t.public_values;
  permutation_width = 0;
  challenges = 0;
  permutation_values = 0;
}

-- the row, or the empty list past the end
abbrev pub row_or_none : {F : Type 0} → Option (List F) → List F
row_or_none None = []
row_or_none (Some row) = row

-- one if the test holds, else zero
abbrev pub selector : {F : Type 0} → CommRing F → Bool → F
selector r b = if b then r.one else r.zero

-- The values at row i of h: the row, the next one (the first after the last), each periodic column at i modulo its
-- length, and the selectors.
abbrev pub row_at : {F : Type 0} → CommRing F → Trace F → ℕ → RowValues F
row_at r t i =
    let h = length t.main_trace.rows in
    record {
      current = row_or_none (slice_get t.main_trace.rows i);
      next = row_or_none (slice_get t.main_trace.rows ((i + 1) % h));
      preprocessed_current = row_or_none (slice_get t.preprocessed_trace.rows i);
      preprocessed_next = row_or_none (slice_get t.preprocessed_trace.rows ((i + 1) % h));
      periodic_row = map (λ column. slice_index_or column (i % length column) r.zero) t.periodic_columns;
      public_row = t.public_values;
      on_first_row = selector r (i == 0);
      on_last_row = selector r (i + 1 == h);
      on_transition = if i + 1 == h then r.zero else r.one;
    }

-- the value of each leaf at a row
abbrev pub row_assignment : {F : Type 0} → CommRing F → Trace F → ℕ → Leaf → F
row_assignment r t i = leaf_value r.zero (row_at r t i)
