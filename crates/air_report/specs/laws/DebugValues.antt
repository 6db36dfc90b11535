-- The meaning of a debug builder's expressions: the values of terms at its row.
use Rattle.std.specs.Prelude.{◌≡◌, Bool, refl}
use Rattle.std.proofs.Common.{sym, ◌∙◌, ap, ap₂}
use Rattle.air_field.specs.Ring.{CommRing, minus, AlgebraOver, self_algebra}
use Rattle.air_field.specs.Extension.{Basis}
use Rattle.air_field.specs.Term.{Leaf, preprocessed, main, periodic, public, first_row, last_row, transition}
use Rattle.air_field.specs.Term.{permutation, challenge, permutation_value, Term, leaf_term, const_term}
use Rattle.air_field.specs.Term.{ext_const_term, add_term, sub_term, neg_term, mul_term, with_leaves, IsBase}
use Rattle.air_field.specs.Value.{value}
use Rattle.air_field.specs.laws.Value.{value-leaves}
use Rattle.air_field.specs.Algebra.{closed_value, closed_value_in}
use Rattle.air_builder.specs.Assertion.{Assertion, Base, Extension}
use Rattle.air_builder.specs.Batches.{AssertsOf}
use Rattle.air_report.specs.Debug.{RowData, row_leaves, ext_row_leaves, row_reads_as, is_zero_at}

module _ {F E : Type 0} (r : CommRing F) (a : AlgebraOver F E) (basis : Basis F E) where
  -- a base term with its leaves replaced by their values has the term's value
  base_value : (w : Leaf → F) (d : RowData F E) (t : Term F)
      → IsBase (with_leaves (row_reads_as r a basis d) t)
      → value (self_algebra r) (row_leaves r d) t ≡ value (self_algebra r) w (with_leaves (row_reads_as r a basis d) t)
  base_value w d (leaf_term (preprocessed o i)) h = refl
  base_value w d (leaf_term (main o i)) h = refl
  base_value w d (leaf_term (periodic i)) h = refl
  base_value w d (leaf_term (public i)) h = refl
  base_value w d (leaf_term first_row) h = refl
  base_value w d (leaf_term last_row) h = refl
  base_value w d (leaf_term transition) h = refl
  base_value w d (leaf_term (permutation o i)) h = absurd h
  base_value w d (leaf_term (challenge i)) h = absurd h
  base_value w d (leaf_term (permutation_value i)) h = absurd h
  base_value w d (const_term c) h = refl
  base_value w d (ext_const_term c) h = absurd h
  base_value w d (add_term t u) h = ap₂ r.add (base_value w d t h.0) (base_value w d u h.1)
  base_value w d (sub_term t u) h = ap₂ (minus r) (base_value w d t h.0) (base_value w d u h.1)
  base_value w d (neg_term t) h = ap r.neg (base_value w d t h)
  base_value w d (mul_term t u) h = ap₂ r.mul (base_value w d t h.0) (base_value w d u h.1)

  -- over the extension, a leaf's constant has the leaf's value in the assignment
  leaf_reads_as : ((x : E) → a.extend (basis.coefficients x) ≡ x) → (w : Leaf → E) (d : RowData F E) (l : Leaf) → ext_row_leaves r a d l ≡ value a w (row_reads_as r a basis d l)
  leaf_reads_as k w d (preprocessed o i) = refl
  leaf_reads_as k w d (main o i) = refl
  leaf_reads_as k w d (periodic i) = refl
  leaf_reads_as k w d (public i) = refl
  leaf_reads_as k w d first_row = refl
  leaf_reads_as k w d last_row = refl
  leaf_reads_as k w d transition = refl
  leaf_reads_as k w d (permutation o i) = sym (k (ext_row_leaves r a d (permutation o i)))
  leaf_reads_as k w d (challenge i) = sym (k (ext_row_leaves r a d (challenge i)))
  leaf_reads_as k w d (permutation_value i) = sym (k (ext_row_leaves r a d (permutation_value i)))

  ext_value : ((x : E) → a.extend (basis.coefficients x) ≡ x) → (w : Leaf → E) (d : RowData F E) (t : Term F) → value a (ext_row_leaves r a d) t ≡ value a w (with_leaves (row_reads_as r a basis d) t)
  ext_value k w d t = ap (λ s. value a s t) (λ i l. leaf_reads_as k w d l i) ∙ sym (value-leaves a w (row_reads_as r a basis d) t)

  module _ (eq : F → F → Bool) (ext_eq : E → E → Bool) where
    -- a base expression that means t is zero exactly if t is zero at the row
    pub base_is_zero : (d : RowData F E) (v : F) (t : Term F)
        → IsBase (with_leaves (row_reads_as r a basis d) t)
        × (closed_value r (with_leaves (row_reads_as r a basis d) t) ≡ v)
        → is_zero_at r a eq ext_eq d (Base t) ≡ eq v r.zero
    base_is_zero d v t m = ap (λ x. eq x r.zero) (base_value (λ _. r.zero) d t m.0 ∙ m.1)

    -- an extension expression that means t is zero exactly if t is zero at the row
    pub ext_is_zero : ((x : E) → a.extend (basis.coefficients x) ≡ x) → (d : RowData F E) (v : E) (t : Term F)
        → closed_value_in a (with_leaves (row_reads_as r a basis d) t) ≡ v
        → is_zero_at r a eq ext_eq d (Extension t) ≡ ext_eq v a.ring.zero
    ext_is_zero k d v t m = ap (λ x. ext_eq x a.ring.zero) (ext_value k (λ _. a.ring.zero) d t ∙ m)

    -- So testing an expression for zero is testing the assertion that it is zero.
    pub base_tested : (d : RowData F E) (v : F) (holds : Bool) → holds ≡ eq v r.zero → (s : Assertion F)
        → AssertsOf Base (λ e x t. IsBase (with_leaves (row_reads_as r a basis e) t) × (closed_value r (with_leaves (row_reads_as r a basis e) t) ≡ x)) (λ t. t) d v s
        → is_zero_at r a eq ext_eq d s ≡ holds
    base_tested d v holds e s (t, m, is) = ap (λ u. is_zero_at r a eq ext_eq d u) is ∙ (base_is_zero d v t m ∙ sym e)

    pub ext_tested : ((x : E) → a.extend (basis.coefficients x) ≡ x) → (d : RowData F E) (v : E) (holds : Bool)
        → holds ≡ ext_eq v a.ring.zero → (s : Assertion F)
        → AssertsOf Extension (λ e x t. closed_value_in a (with_leaves (row_reads_as r a basis e) t) ≡ x) (λ t. t) d v s
        → is_zero_at r a eq ext_eq d s ≡ holds
    ext_tested k d v holds e s (t, m, is) = ap (λ u. is_zero_at r a eq ext_eq d u) is ∙ (ext_is_zero k d v t m ∙ sym e)
