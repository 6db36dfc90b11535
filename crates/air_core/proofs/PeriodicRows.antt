-- Rows of periodic columns, value by value and row by row.
use Rattle.std.proofs.Common.{◌≡◌, ℕ, ◌+◌, ◌<◌, List, [], ◌∷◌, ◌++◌, length, Option, Some, map, take, get_or, refl, sym, ap, ◌∙◌, append_assoc, arith, Vec, Ok, Err, length-append}
use Rattle.std.proofs.Math.Nat.{suc-mul}
use Rattle.std.proofs.lemmas.List.FromFn.{map-range_with_len_more}
use Rattle.air_field.specs.Grid.{Grid, rows_of}
use Rattle.air_field.specs.Matrix.{matrix_of}
use Rattle.air_field.specs.declared.errors.MatrixError.{MatrixError}
use Rattle.air_field.specs.laws.Rows.{length-rows_of, rows_of-more, matrix_of_rows}
use Rattle.std.proofs.lemmas.List.{take_more, map-append, length-map}
use Rattle.air_core.specs.Periodic.{HasRows, HasGridRows, IsGreatestPeriod, column_at, rows_below}

pub HasRows-more : {T C : Type 0} (old mid new : List T) (columns : List C) (i : ℕ) (at_row : C → Option T) (c : C) (v : T)
    → i < length columns → c ≡ get_or columns i c → at_row c ≡ Some v → new ≡ mid ++ v ∷ []
    → HasRows old (take i columns) at_row mid → HasRows old (take (i + 1) columns) at_row new
HasRows-more old mid new columns i at_row c v lt is value push h = record {
  added = h.added ++ v ∷ [];
  after = push ∙ ap (λ xs. xs ++ v ∷ []) h.after ∙ append_assoc old h.added (v ∷ []);
  each = rw (take_more columns i c lt, map-append, map-append, h.each, ← is, value);
}

-- a row appended to an empty list is the list
pub row_made : {T C : Type 0} (old new : List T) (columns : List C) (at_row : C → Option T)
    → old ≡ [] → HasRows old columns at_row new → map Some new ≡ map at_row columns
row_made old new columns at_row none h = ap (map Some) (h.after ∙ ap (λ xs. xs ++ h.added) none) ∙ h.each

-- one more row of the matrix
pub HasGridRows-more : {T A : Type 0} (columns : List (Vec T A)) (h : ℕ) (old new : List T)
    → HasGridRows columns h old → HasRows old columns (column_at h) new → HasGridRows columns (h + 1) new
HasGridRows-more columns h old new before row =
    let width : length row.added ≡ length columns =
    sym (length-map row.added Some) ∙ ap length row.each ∙ length-map columns (column_at h) in
    let rows = rows_of-more h (length columns) old row.added before.count width in
    record {
      count = ap length row.after ∙ length-append old row.added ∙ omega (arith, before.count, width, suc-mul h (length columns));
      each = rw (row.after, rows, map-append, before.each, row.each, map-range_with_len_more (λ r. map (column_at r) columns) 0 h h (omega arith));
    }

-- the matrix of the values
pub matrix_made : {T A : Type 0} (columns : List (Vec T A)) (h : ℕ) (values : List T) (grid : Grid T)
    → 0 < length columns → IsGreatestPeriod columns h → HasGridRows columns h values → matrix_of (length columns) values ≡ Ok grid
    → (grid.width ≡ length columns) × (0 < length columns) × IsGreatestPeriod columns (length grid.rows)
    × (map (λ row. map Some row) grid.rows ≡ rows_below columns (length grid.rows))
matrix_made columns h values grid some greatest rows made =
    let is : record { width = length columns; rows = rows_of h (length columns) values } ≡ grid =
    cc (made, matrix_of_rows h (length columns) values some rows.count) in
    let heights = length-rows_of h (length columns) values in
    rw (← is, heights) (refl, some, greatest, rows.each)

-- whole rows are a matrix
pub matrix_not_refused : {T A : Type 0} (columns : List (Vec T A)) (h : ℕ) (values : List T) (e : MatrixError)
    → 0 < length columns → HasGridRows columns h values → matrix_of (length columns) values ≡ Err e → ⊥
matrix_not_refused columns h values e some rows refused =
    let made = matrix_of_rows h (length columns) values some rows.count in cc
