-- What constraints that are zero on each row say of a row and the next one.
use Rattle.std.specs.Prelude.{◌≡◌, ◌==◌, if◌then◌else◌}
use Rattle.std.proofs.Common.{ℕ, suc, ◌+◌, ◌<◌, ◌++◌, List, [], ◌∷◌, Bool, true, false, slice_get, slice_index_or, refl, sym, ◌∙◌, ap, arith, eq-eqb}
use Rattle.std.proofs.Math.Nat.{mod-eq_of_lt}
use borrow.Author.Tests.{eqb-true}
use Rattle.air_field.specs.Assignment.{Trace, row_assignment, row_or_none}
use Rattle.air_field.specs.Ring.{CommRing, self_algebra}
use Rattle.air_field.specs.Term.{Leaf, Term}
use Rattle.air_field.specs.Value.{value}
use Rattle.air_field.specs.laws.Ring.{one_mul, mul_one}
use Rattle.air_builder.specs.Assertion.{Assertion, Base, Extension}
use Rattle.air_builder.specs.Notation.{current, next, first_row, last_row, transition, ◌≐◌, when}
use Rattle.air_builder.specs.Vanishing.{AllVanish}
use Rattle.air_gadgets.specs.laws.Vanishing.{both_vanish}
use Rattle.air_gadgets.specs.laws.Xors.{same_of_minus}
use Rattle.air_chains.specs.Rows.{height, value_at, HoldOnRows}

module _ {F : Type 0} (R : CommRing F) (s : Leaf → F) where
  -- where a condition is one, its constraints hold
  pub condition_holds : (c : Term F) (ts : List (Assertion F)) → value (self_algebra R) s c ≡ R.one → AllVanish R s (when c ts) → AllVanish R s ts
  condition_holds c [] is h = tt
  condition_holds c (Base t ∷ ts) is h =
      (sym (one_mul R (value (self_algebra R) s t)) ∙ (ap (λ x. R.mul x (value (self_algebra R) s t)) (sym is) ∙ h.0), condition_holds c ts is h.1)
  condition_holds c (Extension t ∷ ts) is h =
      (sym (mul_one R (value (self_algebra R) s t)) ∙ (ap (R.mul (value (self_algebra R) s t)) (sym is) ∙ h.0), condition_holds c ts is h.1)

  -- both sides of an equation have the same value
  pub equal : (x y : Term F) → AllVanish R s (x ≐ y) → value (self_algebra R) s x ≡ value (self_algebra R) s y
  equal x y h = same_of_minus R (value (self_algebra R) s x) (value (self_algebra R) s y) h.0

module _ {F : Type 0} (R : CommRing F) (t : Trace F) where
  -- both of two lists
  pub both_hold : (ts us : List (Assertion F)) → HoldOnRows R t (ts ++ us) → HoldOnRows R t ts × HoldOnRows R t us
  both_hold ts us h =
      (λ i lt. (both_vanish R (row_assignment R t i) ts us (h i lt)).0, λ i lt. (both_vanish R (row_assignment R t i) ts us (h i lt)).1)

  pub on_first : value_at R t 0 first_row ≡ R.one
  on_first = refl

  is_last : (b : Bool) → b ≡ true → (if b then R.one else R.zero) ≡ R.one
  is_last true e = refl
  is_last false e = cc

  pub on_last : (i : ℕ) → suc i ≡ height t → value_at R t i last_row ≡ R.one
  on_last i e = is_last (i + 1 == height t) (eq-eqb (i + 1) (height t) (omega (arith, e)))

  not_last : (i h : ℕ) (b : Bool) → suc i < h → (b ≡ true → i + 1 ≡ h) → (if b then R.zero else R.one) ≡ R.one
  not_last i h true lt e = let same : i + 1 ≡ h = e refl in absurd (omega (arith, lt, same))
  not_last i h false lt e = refl

  pub on_transition : (i : ℕ) → suc i < height t → value_at R t i transition ≡ R.one
  on_transition i lt = not_last i (height t) (i + 1 == height t) lt (eqb-true (i + 1) (height t))

  -- the selector of the last row is zero before it
  not_the_last : (i h : ℕ) (b : Bool) → suc i < h → (b ≡ true → i + 1 ≡ h) → (if b then R.one else R.zero) ≡ R.zero
  not_the_last i h true lt e = let same : i + 1 ≡ h = e refl in absurd (omega (arith, lt, same))
  not_the_last i h false lt e = refl

  pub before_last : (i : ℕ) → suc i < height t → value_at R t i last_row ≡ R.zero
  before_last i lt = not_the_last i (height t) (i + 1 == height t) lt (eqb-true (i + 1) (height t))

  -- constraints for the first row, for the last row, and for each row but the last
  pub first_row_holds : (ts : List (Assertion F)) → HoldOnRows R t (when first_row ts) → 0 < height t → AllVanish R (row_assignment R t 0) ts
  first_row_holds ts h some = condition_holds R (row_assignment R t 0) first_row ts on_first (h 0 some)

  pub last_row_holds : (ts : List (Assertion F)) → HoldOnRows R t (when last_row ts) → (i : ℕ) → suc i ≡ height t → AllVanish R (row_assignment R t i) ts
  last_row_holds ts h i e = condition_holds R (row_assignment R t i) last_row ts (on_last i e) (h i (omega (arith, e)))

  pub transition_holds : (ts : List (Assertion F)) → HoldOnRows R t (when transition ts) → (i : ℕ) → suc i < height t → AllVanish R (row_assignment R t i) ts
  transition_holds ts h i lt = condition_holds R (row_assignment R t i) transition ts (on_transition i lt) (h i (omega (arith, lt)))

  -- a column of the next row
  pub next_row : (i column : ℕ) → suc i < height t → value_at R t i (next column) ≡ value_at R t (suc i) (current column)
  next_row i column lt =
      let up : i + 1 ≡ suc i = omega arith in
      let low : i + 1 < height t = omega (arith, lt) in
      ap (λ j. slice_index_or (row_or_none (slice_get t.main_trace.rows j)) column R.zero) (mod-eq_of_lt low ∙ up)

  -- an equation for the first row, for the last row, and for a column of each next row
  pub first_is : (x y : Term F) → HoldOnRows R t (when first_row (x ≐ y)) → 0 < height t → value_at R t 0 x ≡ value_at R t 0 y
  first_is x y h some = equal R (row_assignment R t 0) x y (first_row_holds (x ≐ y) h some)

  pub last_is : (x y : Term F) → HoldOnRows R t (when last_row (x ≐ y)) → (i : ℕ) → suc i ≡ height t → value_at R t i x ≡ value_at R t i y
  last_is x y h i e = equal R (row_assignment R t i) x y (last_row_holds (x ≐ y) h i e)

  pub next_is : (column : ℕ) (x : Term F) → HoldOnRows R t (when transition (next column ≐ x)) → (i : ℕ) → suc i < height t
      → value_at R t (suc i) (current column) ≡ value_at R t i x
  next_is column x h i lt = sym (next_row i column lt) ∙ equal R (row_assignment R t i) (next column) x (transition_holds (next column ≐ x) h i lt)
