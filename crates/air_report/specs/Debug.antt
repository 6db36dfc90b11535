-- The row of a debug builder, and its growth.
use Rattle.std.specs.Prelude.{◌≡◌, ℕ, ◌+◌, List, ◌++◌, length, map, Bool, not}
use Rattle.std.specs.List.{filter, enumerate_from}
use Rattle.air_field.specs.Ring.{CommRing, AlgebraOver, self_algebra}
use Rattle.air_field.specs.Extension.{Basis}
use Rattle.air_field.specs.Term.{Leaf, permutation, challenge, permutation_value, Term, const_term, ext_const_term}
use Rattle.air_field.specs.Value.{value}
use Rattle.air_field.specs.Assignment.{RowValues, leaf_value}
use Rattle.air_field.specs.OneRow.{PermutationData, one_row_value}
use Rattle.air_builder.specs.Assertion.{Assertion, Base, Extension}
use Rattle.air_report.specs.Report.{assertion_value, failure_place}
use Rattle.air_report.specs.declared.debug.failure.ConstraintFailure.{ConstraintFailure}

-- a row's index and values; whether there is a permutation trace, with columns or without; its permutation data
pub record RowData (F E : Type 0) : Type 0 where
  pub row : ℕ
  pub values : RowValues F
  pub has_permutation : Bool
  pub permutation : PermutationData E

abbrev pub row_data : {F E : Type 0} → ℕ → List F → List F → List F → List F → List F → List F → F → F → F → Bool → PermutationData E → RowData F E
row_data row current next preprocessed_current preprocessed_next periodic public first last transition has others = record {
  row = row;
  values = record {
    current = current;
    next = next;
    preprocessed_current = preprocessed_current;
    preprocessed_next = preprocessed_next;
    periodic_row = periodic;
    public_row = public;
    on_first_row = first;
    on_last_row = last;
    on_transition = transition;
  };
  has_permutation = has;
  permutation = others;
}

-- the assignment of the row
abbrev pub row_leaves : {F E : Type 0} → CommRing F → RowData F E → Leaf → F
row_leaves r d = leaf_value r.zero d.values

-- the assignment over the extension, with the permutation data
abbrev pub ext_row_leaves : {F E : Type 0} → CommRing F → AlgebraOver F E → RowData F E → Leaf → E
ext_row_leaves r a d = one_row_value r.zero a d.values d.permutation

-- the value of a leaf, as a constant of F, or of the extension for permutation data
abbrev pub row_reads_as : {F E : Type 0} → CommRing F → AlgebraOver F E → Basis F E → RowData F E → Leaf → Term F
row_reads_as r a basis d (permutation o i) = ext_const_term (basis.coefficients (ext_row_leaves r a d (permutation o i)))
row_reads_as r a basis d (challenge i) = ext_const_term (basis.coefficients (ext_row_leaves r a d (challenge i)))
row_reads_as r a basis d (permutation_value i) = ext_const_term (basis.coefficients (ext_row_leaves r a d (permutation_value i)))
row_reads_as r a basis d l = const_term (row_leaves r d l)

-- whether an assertion is zero at the row: a base term by its value in F, an extension term by its value over the
-- extension
abbrev pub is_zero_at : {F E : Type 0} → CommRing F → AlgebraOver F E → (F → F → Bool) → (E → E → Bool) → RowData F E → Assertion F → Bool
is_zero_at r a eq ext_eq d (Base t) = eq (value (self_algebra r) (row_leaves r d) t) r.zero
is_zero_at r a eq ext_eq d (Extension t) = ext_eq (value a (ext_row_leaves r a d) t) a.ring.zero

-- the indices, counted from n on, of the assertions that the test doesn't find zero
abbrev pub nonzero_by : {F : Type 0} → (Assertion F → Bool) → ℕ → List (Assertion F) → List ℕ
nonzero_by zero n ts = map (λ p. p.0) (filter (λ p. not (zero p.1)) (enumerate_from n ts))

-- as `nonzero_by`, where the field is its own extension
abbrev pub nonzero_from : {F : Type 0} → CommRing F → (F → F → Bool) → (Leaf → F) → ℕ → List (Assertion F) → List ℕ
nonzero_from r eq s n ts = nonzero_by (λ t. eq (assertion_value r s t) r.zero) n ts

-- The counter rose by the length of the list, and a failure was added for each nonzero assertion, in order.
pub record GrewAtRow {F E : Type 0} (zero : RowData F E → Assertion F → Bool) (d e : RowData F E) (m n : ℕ) (fs gs : List ConstraintFailure) (ts : List (Assertion F)) : Type 0 where
  pub same_row : e ≡ d
  pub count : n ≡ m + length ts
  pub more : List ConstraintFailure
  pub failures : gs ≡ fs ++ more
  pub places : map failure_place more ≡ map (λ k. (d.row, k)) (nonzero_by (zero d) m ts)
