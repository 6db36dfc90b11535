-- The first row that a bit marks, and what holds up to it.
use Rattle.std.specs.Prelude.{◌⊎◌, ◌≢◌, if◌then◌else◌, ◌↔◌}
use Rattle.std.proofs.Common.{◌≡◌, ◌<◌, ◌≤◌, ℕ, zero, suc, List, [], ◌∷◌, length, take, slice_index_or, Bool, true, false, refl, sym, ◌∙◌, ap, ap₂, subst, inl, inr, arith}
use Rattle.std.proofs.lemmas.Bool.{cases_lt}
use Rattle.air_field.specs.Assignment.{Trace}
use Rattle.air_field.specs.Domain.{IsDomain}
use Rattle.air_field.specs.Ring.{CommRing}
use Rattle.air_field.specs.Term.{Term}
use Rattle.air_field.specs.laws.Ring.{zero_add}
use Rattle.air_gadgets.specs.laws.Xors.{same_of_minus}
use Rattle.air_builder.specs.Notation.{current, next, first_row, last_row, transition, boolean, ◌≐◌, ◌⊕◌, constant, when}
use Rattle.air_chains.specs.Marks.{IsFirstMarked, up_to_first}
use Rattle.air_chains.specs.Rows.{height, value_at, HoldOnRows, nth_row}
use Rattle.air_chains.specs.laws.Rows.{first_is, last_is, next_is, next_row}

-- induction up to row m
pub holds_up_to : (P : ℕ → Type 0) (m : ℕ) → P 0 → ((i : ℕ) → i < m → P i → P (suc i)) → (i : ℕ) → i ≤ m → P i
holds_up_to P m first next zero le = first
holds_up_to P m first next (suc i) le = next i (omega (arith, le)) (holds_up_to P m first next i (omega (arith, le)))

module _ {F : Type 0} (R : CommRing F) (t : Trace F) where
  module _ (domain : IsDomain R) (mark : Term F) (bits : HoldOnRows R t (boolean R.one mark)) where
    -- the term is zero or one
    pub is_bit : (i : ℕ) → i < height t → (value_at R t i mark ≡ R.zero) ⊎ (value_at R t i mark ≡ R.one)
    is_bit i lt =
        elim (domain (value_at R t i mark) _ (bits i lt).0) [
          | inl e ↦ inl e
          | inr e ↦ inr (same_of_minus R (value_at R t i mark) R.one e)
        ]

    -- of the first n rows, one is the first that is marked, or none is
    marked_below : (n : ℕ) → n ≤ height t → ((m : ℕ) × IsFirstMarked R t mark m) ⊎ ((i : ℕ) → i < n → value_at R t i mark ≡ R.zero)
    marked_below zero le = inr (λ i lt. absurd (omega (arith, lt)))
    marked_below (suc n) le =
        elim (marked_below n (omega (arith, le))) [
          | inl found ↦ inl found
          | inr none ↦ elim (is_bit n (omega (arith, le))) [
            | inl e ↦ inr (λ i lt. elim (cases_lt i n) [
              | inl low ↦ none i low
              | inr high ↦ (let same : n ≡ i = omega (arith, lt, high) in subst (λ k. value_at R t k mark ≡ R.zero) same e)
            ])
            | inr e ↦ inl (n, record { within = omega (arith, le); is_marked = e; before = none })
          ]
        ]

    -- one row is the first that is marked, or none is
    pub first_marked : ((m : ℕ) × IsFirstMarked R t mark m) ⊎ ((i : ℕ) → i < height t → value_at R t i mark ≡ R.zero)
    first_marked = marked_below (height t) (omega arith)

  -- there is at most one such row
  pub marked_once : R.one ≢ R.zero → (mark : Term F) (m n : ℕ) → IsFirstMarked R t mark m → IsFirstMarked R t mark n → m ≡ n
  marked_once apart mark m n h k =
      elim (cases_lt m n) [
        | inl lt ↦ absurd (apart (sym h.is_marked ∙ k.before m lt))
        | inr ge ↦ elim (cases_lt n m) [
          | inl lt ↦ absurd (apart (sym k.is_marked ∙ h.before n lt))
          | inr le ↦ omega (arith, ge, le)
        ]
      ]

  -- The column `done` counts the marks so far, and is one on the last row. Then some row is marked.
  module _ (domain : IsDomain R) (apart : R.one ≢ R.zero) (mark done : ℕ) (bits : HoldOnRows R t (boolean R.one (current mark)))
      (begins : HoldOnRows R t (when first_row (current done ≐ current mark)))
      (counts : HoldOnRows R t (when transition (next done ≐ current done ⊕ next mark))) where
    -- before the first mark nothing is counted
    counted_nothing : (n : ℕ) → n < height t → ((i : ℕ) → i ≤ n → value_at R t i (current mark) ≡ R.zero) → value_at R t n (current done) ≡ R.zero
    counted_nothing zero lt none = first_is R t (current done) (current mark) begins lt ∙ none 0 (omega arith)
    counted_nothing (suc n) lt none =
        let before = counted_nothing n (omega (arith, lt)) (λ i le. none i (omega (arith, le))) in
        next_is R t done (current done ⊕ next mark) counts n lt
        ∙ (ap₂ R.add before (next_row R t n mark lt ∙ none (suc n) (omega arith))
        ∙ zero_add R R.zero)

    -- some row is marked
    pub some_marked : HoldOnRows R t (when last_row (current done ≐ constant R.one)) → 0 < height t → (m : ℕ) × IsFirstMarked R t (current mark) m
    some_marked ends some =
        elim (first_marked domain (current mark) bits) [
          | inl found ↦ found
          | inr none ↦ absurd (nothing_marked (height t) refl none)
        ]
      where
        nothing_marked : (h : ℕ) → height t ≡ h → ((i : ℕ) → i < height t → value_at R t i (current mark) ≡ R.zero) → ⊥
        nothing_marked zero e none = absurd (omega (arith, e, some))
        nothing_marked (suc n) e none =
            apart (sym (last_is R t (current done) (constant R.one) ends n (sym e))
            ∙ counted_nothing n (omega (arith, e)) (λ i le. none i (omega (arith, e, le))))

    pub before_mark : (m : ℕ) → IsFirstMarked R t (current mark) m → (i : ℕ) → i < m → value_at R t i (current done) ≡ R.zero
    before_mark m h i lt = counted_nothing i (omega (arith, lt, h.within)) (λ k le. h.before k (omega (arith, lt, le)))

-- the elements up to the first that passes a test are those up to its index
module _ {F : Type 0} (test : List F → Bool) where
  up_to_first_is : (rows : List (List F)) (m : ℕ) → m < length rows → ((i : ℕ) → i < m → test (nth_row rows i) ≡ false) → test (nth_row rows m) ≡ true
      → up_to_first test rows ≡ take (suc m) rows
  up_to_first_is [] m lt before is = absurd (omega (arith, lt))
  up_to_first_is (row ∷ rows) zero lt before is = ap (λ b. row ∷ (if b then [] else up_to_first test rows)) is
  up_to_first_is (row ∷ rows) (suc m) lt before is =
      ap (λ b. row ∷ (if b then [] else up_to_first test rows)) (before 0 (omega arith))
      ∙ ap (λ rest. row ∷ rest) (up_to_first_is rows m (omega (arith, lt)) (λ i low. before (suc i) (omega (arith, low))) is)

module _ {F : Type 0} (R : CommRing F) (eq : F → F → Bool) (decides : (x y : F) → (eq x y ≡ true) ↔ (x ≡ y)) (apart : R.one ≢ R.zero) (t : Trace F) where
  differs : (x : F) (b : Bool) → eq x R.one ≡ b → x ≡ R.zero → eq x R.one ≡ false
  differs x true e is = absurd (apart (sym ((decides x R.one).0 e) ∙ is))
  differs x false e is = e

  -- the rows up to the first that a column marks
  pub rows_up_to_mark : (mark m : ℕ) → IsFirstMarked R t (current mark) m
      → up_to_first (λ row. eq (slice_index_or row mark R.zero) R.one) t.main_trace.rows ≡ take (suc m) t.main_trace.rows
  rows_up_to_mark mark m h =
      up_to_first_is (λ row. eq (slice_index_or row mark R.zero) R.one) t.main_trace.rows m h.within
      (λ i lt. differs (value_at R t i (current mark)) _ refl (h.before i lt)) ((decides (value_at R t m (current mark)) R.one).1 h.is_marked)
