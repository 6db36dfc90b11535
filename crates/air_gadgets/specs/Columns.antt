-- Columns of a preprocessed and a main trace, and weighted sums of them.
use Rattle.std.specs.Prelude.{◌≡◌, ℕ, ◌<◌, List, [], ◌∷◌, Option, Some, All, map, slice_get}
use Rattle.air_field.specs.Term.{Term}
use Rattle.air_field.specs.Algebra.{scaled_term}
use Rattle.air_field.specs.Joins.{join_from}
use Rattle.air_builder.specs.Notation.{constant, ◌⊕◌}
use Rattle.air_gadgets.specs.declared.columns.pair_col.PairCol.{PairCol}
use Rattle.air_gadgets.specs.declared.columns.pair_col.PairCol.TheVariants.{Preprocessed, Main}

-- the entry in the column, if there is one
abbrev pub entry_of : {T : Type 0} → PairCol → List T → List T → Option T
entry_of (Preprocessed i) preprocessed main = slice_get preprocessed i
entry_of (Main i) preprocessed main = slice_get main i

-- the column is below the width of its trace
abbrev pub IsWithin : ℕ → ℕ → PairCol → Type 0
IsWithin preprocessed_width main_width (Preprocessed i) = i < preprocessed_width
IsWithin preprocessed_width main_width (Main i) = i < main_width

-- Columns with their weights, and a constant.
pub record Combination (F : Type 0) : Type 0 where
  pub weights : List (PairCol × F)
  pub constant : F

abbrev pub combination : {F : Type 0} → List (PairCol × F) → F → Combination F
combination weights constant = record { weights = weights; constant = constant }

-- weights of preprocessed, or of main columns, and a constant
abbrev pub on_preprocessed : {F : Type 0} → List (ℕ × F) → F → Combination F
on_preprocessed weights constant = combination (map (λ w. (Preprocessed w.0, w.1)) weights) constant

abbrev pub on_main : {F : Type 0} → List (ℕ × F) → F → Combination F
on_main weights constant = combination (map (λ w. (Main w.0, w.1)) weights) constant

-- one column itself, a sum of columns, and one column minus another
abbrev pub single_of : {F : Type 0} → F → F → PairCol → Combination F
single_of one zero column = combination ((column, one) ∷ []) zero

abbrev pub sum_of : {F : Type 0} → F → F → (ℕ → PairCol) → List ℕ → Combination F
sum_of one zero column indices = combination (map (λ i. (column i, one)) indices) zero

abbrev pub difference_of : {F : Type 0} → F → F → F → PairCol → PairCol → Combination F
difference_of one neg_one zero a b = combination ((a, one) ∷ (b, neg_one) ∷ []) zero

-- each column that it names is below the width of its trace
abbrev pub FitsWithin : {F : Type 0} → ℕ → ℕ → Combination F → Type 0
FitsWithin preprocessed_width main_width c = All (λ w. IsWithin preprocessed_width main_width w.0) c.weights

-- the constant plus the sum of weight times column, with a term `at` for each column
abbrev pub combined_term : {F : Type 0} → (PairCol → Term F) → Combination F → Term F
combined_term {F} at c = join_from ◌⊕◌ (constant c.constant) (map (λ w. scaled_term w.1 (at w.0)) c.weights)

-- the entry in each column means the term `at` the column
abbrev pub ColumnsMean : {E F : Type 0} → (E → Term F → Type 0) → (PairCol → Term F) → List E → List E → Type 0
ColumnsMean {E} means at preprocessed main = (column : PairCol) (x : E) → entry_of column preprocessed main ≡ Some x → means x (at column)

-- z is an element that means the constant plus the sum of weight times column, with the terms that the entries meant
abbrev pub MadeOfColumns : {R E F : Type 0} → (R → E → Type 0) → (R → E → Term F → Type 0) → R → R → Combination F → List E → List E → E → Type 0
MadeOfColumns {F = F} has means old new c preprocessed main z =
    has new z × ((at : PairCol → Term F) → ColumnsMean (means old) at preprocessed main → means new z (combined_term at c))

-- making that sum may be refused with e
abbrev pub RefusedOfColumns : {R E F X : Type 0} → (R → E → Term F → Type 0) → (X → Term F → Type 0) → R → Combination F → List E → List E → X → Type 0
RefusedOfColumns {F = F} means refuses old c preprocessed main e =
    (at : PairCol → Term F) → ColumnsMean (means old) at preprocessed main → refuses e (combined_term at c)
