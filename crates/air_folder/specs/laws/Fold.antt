-- The continued fold is Horner's fold, one value at a time.
use Rattle.std.specs.Prelude.{◌≡◌, ℕ, zero, suc, ◌-◌, List, [], ◌∷◌, ◌++◌, length, slice_index_or, refl}
use Rattle.std.proofs.Common.{sym, ◌∙◌, ap, ap₂, arith}
use Rattle.air_field.specs.Ring.{CommRing}
use Rattle.air_field.specs.laws.Ring.{zero_add, zero_mul}
use Rattle.air_field.specs.laws.RingSolver.{var, plus, times, ring}
use Rattle.air_field.specs.Powers.{power}
use Rattle.air_recording.specs.AlphaPowers.{alpha_power}
use Rattle.air_recording.specs.Folds.{sum_below, sum_by_powers}
use Rattle.air_folder.specs.Fold.{folded_on, fold_from}

module _ {E : Type 0} (r : CommRing E) where
  -- the first summand separately
  sum_below-first : (f : ℕ → E) (n : ℕ) → sum_below r f (suc n) ≡ r.add (f 0) (sum_below r (λ i. f (suc i)) n)
  sum_below-first f zero = r.add_comm r.zero (f 0)
  sum_below-first f (suc n) =
      ap (λ x. r.add x (f (suc n))) (sum_below-first f n) ∙ r.add_assoc (f 0) (sum_below r (λ i. f (suc i)) n) (f (suc n))

  module _ (alpha : E) where
    -- the first value has the highest power
    pub sum_by_powers-first : (v : E) (values : List E) → sum_by_powers r alpha (v ∷ values) ≡ r.add (r.mul (power r alpha (length values)) v) (sum_by_powers r alpha values)
    sum_by_powers-first v values =
        sum_below-first (λ i. r.mul (alpha_power r alpha (suc (length values)) i) (slice_index_or (v ∷ values) i r.zero)) (length values)
        ∙ ap₂ (λ p s. r.add (r.mul (power r alpha p) v) s) (omega arith)
        (ap (λ w. sum_below r w (length values)) (λ j i. r.mul (power r alpha (later (length values) i j)) (slice_index_or values i r.zero)))
      where
        later : (n i : ℕ) → suc n - 1 - suc i ≡ n - 1 - i
        later n i = omega arith

    step : (acc v p s : E) → r.add (r.mul (r.add (r.mul acc alpha) v) p) s ≡ r.add (r.mul acc (r.mul p alpha)) (r.add (r.mul p v) s)
    step acc v p s =
        ring r (acc ∷ alpha ∷ v ∷ p ∷ s ∷ [])
        (plus (times (plus (times (var 0) (var 1)) (var 2)) (var 3)) (var 4))
        (plus (times (var 0) (times (var 3) (var 1))) (plus (times (var 3) (var 2)) (var 4)))
        refl

    pub running-is : (acc : E) (values : List E) → fold_from r alpha acc values ≡ folded_on r alpha acc values
    running-is acc [] = sym (r.add_zero (r.mul acc r.one) ∙ r.mul_one acc)
    running-is acc (v ∷ values) =
        running-is (r.add (r.mul acc alpha) v) values
        ∙ (step acc v (power r alpha (length values)) (sum_by_powers r alpha values)
        ∙ ap (r.add (r.mul acc (power r alpha (suc (length values))))) (sym (sum_by_powers-first v values)))

    running-append : (acc : E) (xs ys : List E) → fold_from r alpha acc (xs ++ ys) ≡ fold_from r alpha (fold_from r alpha acc xs) ys
    running-append acc [] ys = refl
    running-append acc (x ∷ xs) ys = running-append (r.add (r.mul acc alpha) x) xs ys

    -- one more value
    pub folded_on-one : (acc v : E) → r.add (r.mul acc alpha) v ≡ folded_on r alpha acc (v ∷ [])
    folded_on-one acc v = running-is acc (v ∷ [])

    -- a fold continues an earlier fold
    pub folded_on-append : (acc : E) (xs ys : List E) → folded_on r alpha (folded_on r alpha acc xs) ys ≡ folded_on r alpha acc (xs ++ ys)
    folded_on-append acc xs ys =
        sym (running-is (folded_on r alpha acc xs) ys)
        ∙ (ap (λ a. fold_from r alpha a ys) (sym (running-is acc xs))
        ∙ (sym (running-append acc xs ys) ∙ running-is acc (xs ++ ys)))

    -- the fold of no values is the accumulator
    pub folded_on-none : (acc : E) → acc ≡ folded_on r alpha acc []
    folded_on-none acc = running-is acc []

    -- from zero it is Horner's fold
    pub folded_on-nil : (values : List E) → folded_on r alpha r.zero values ≡ sum_by_powers r alpha values
    folded_on-nil values =
        ap (λ x. r.add x (sum_by_powers r alpha values)) (zero_mul r (power r alpha (length values))) ∙ zero_add r (sum_by_powers r alpha values)
