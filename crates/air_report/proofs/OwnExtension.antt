-- The zero assertions at a row, where a field is its own extension and there is no permutation data.
use Rattle.std.specs.Prelude.{◌≡◌, ℕ, zero, suc, List, Bool, false, refl}
use Rattle.std.proofs.Common.{◌∙◌, ap}
use Rattle.air_field.specs.Ring.{CommRing, AlgebraOver, self_algebra}
use Rattle.air_field.specs.Term.{Leaf, preprocessed, main, periodic, public, first_row, last_row, transition, permutation, challenge, permutation_value}
use Rattle.air_field.specs.Value.{value}
use Rattle.air_field.specs.Assignment.{RowValues, leaf_value}
use Rattle.air_field.specs.OneRow.{no_permutation, one_row_value}
use Rattle.air_builder.specs.Assertion.{Assertion, Base, Extension}
use Rattle.air_report.specs.Debug.{is_zero_at, nonzero_by, nonzero_from}
use Rattle.air_report.specs.Report.{assertion_value}

module _ {F : Type 0} (r : CommRing F) where
  own_leaf : (v : RowValues F) (l : Leaf) → one_row_value r.zero (self_algebra r) v no_permutation l ≡ leaf_value r.zero v l
  own_leaf v (preprocessed o i) = refl
  own_leaf v (main o i) = refl
  own_leaf v (periodic i) = refl
  own_leaf v (public i) = refl
  own_leaf v first_row = refl
  own_leaf v last_row = refl
  own_leaf v transition = refl
  own_leaf v (permutation zero i) = refl
  own_leaf v (permutation (suc zero) i) = refl
  own_leaf v (permutation (suc (suc o)) i) = refl
  own_leaf v (challenge i) = refl
  own_leaf v (permutation_value i) = refl

  module _ (eq : F → F → Bool) where
    own_zero : (row : ℕ) (v : RowValues F) (s : Assertion F) → is_zero_at r (self_algebra r) eq eq (record { row = row; values = v; has_permutation = false; permutation = no_permutation }) s ≡ eq (assertion_value r (leaf_value r.zero v) s) r.zero
    own_zero row v (Base t) = refl
    own_zero row v (Extension t) = ap (λ s. eq (value (self_algebra r) s t) r.zero) (λ i l. own_leaf v l i)

    -- the indices of the nonzero assertions
    pub own_nonzero : (a : AlgebraOver F F) → a ≡ self_algebra r → (row : ℕ) (v : RowValues F) (m : ℕ) (ts : List (Assertion F)) → nonzero_by (is_zero_at r a eq eq (record { row = row; values = v; has_permutation = false; permutation = no_permutation })) m ts ≡ nonzero_from r eq (leaf_value r.zero v) m ts
    own_nonzero a e row v m ts =
        ap (λ b. nonzero_by (is_zero_at r b eq eq (record { row = row; values = v; has_permutation = false; permutation = no_permutation })) m ts) e
        ∙ ap (λ z. nonzero_by z m ts) (λ i s. own_zero row v s i)
