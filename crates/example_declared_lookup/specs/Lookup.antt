-- The constraints of lookups in a table of squares.
use Rattle.std.specs.Prelude.{ℕ, List, [], ◌∷◌, ◌++◌}
use Rattle.p3_air.specs.Author.{CommRing, Term, Assertion, current, next, preprocessed_current, periodic, first_row, transition, number, ◌⊕◌, ◌⊖◌, ◌⊙◌, is_zero, boolean}
use Rattle.p3_air.specs.BoundaryPublic.{BoundaryPublic}
use Rattle.p3_air.specs.BoundaryEnd.TheVariants.{Last}

-- Columns: 0 the number, 1 its square, 2 the selector of the row, 3 the number of selected rows so far.

-- the table: numbers and their squares
abbrev pub squares : List (List ℕ)
squares = (0 ∷ 0 ∷ []) ∷ (1 ∷ 1 ∷ []) ∷ (2 ∷ 4 ∷ []) ∷ (3 ∷ 9 ∷ []) ∷ (4 ∷ 16 ∷ []) ∷ (5 ∷ 25 ∷ []) ∷ (6 ∷ 36 ∷ []) ∷ (7 ∷ 49 ∷ []) ∷ []

-- the number and its square equal the preprocessed row; the condition turns each term t into f t
unfoldable pub of_table : {F : Type 0} → (Term F → Term F) → List (Assertion F)
of_table f =
    is_zero (f (current 0 ⊖ preprocessed_current 0)) ++
    is_zero (f (current 1 ⊖ preprocessed_current 1))

-- the count starts at the first row's selector, and increases by the next row's selector; f as above
unfoldable pub counted : {F : Type 0} → (Term F → Term F) → List (Assertion F)
counted f =
    is_zero (f (first_row ⊙ (current 3 ⊖ current 2))) ++
    is_zero (f (transition ⊙ (next 3 ⊖ (current 3 ⊕ next 2))))

-- the last row's count is public value 0
abbrev pub count_at_end : List BoundaryPublic
count_at_end = record { column = 3; end = Last; public_value = 0 } ∷ []

-- a selected row equals the preprocessed row; a row may be selected only where the periodic column is one
abbrev pub lookup : {F : Type 0} → CommRing F → List (Assertion F)
lookup R =
    boolean R.one (current 2) ++
    (of_table (λ t. current 2 ⊙ t) ++
    (counted (λ t. t) ++
    is_zero (current 2 ⊙ (number R 1 ⊖ periodic 0))))
