-- If one of K values isn't zero, fewer than K distinct elements fold the values to zero.
use Rattle.std.specs.Prelude.{◌≡◌, ◌≢◌, refl, ◌+◌, ◌<◌, List, [], ◌∷◌, ◌++◌, length, All, Bool, true, count_by}
use Rattle.std.proofs.Common.{Ordering, Less, Equal, Greater}
use Rattle.std.specs.Ordering.{ordering_reverse}
use Rattle.std.specs.Cmp.{IsTotalOrder}
use Rattle.std.proofs.Common.{sym, ◌∙◌, ap, ap₂, subst, arith, length-append}
use Rattle.std.proofs.lemmas.List.Elements.{All-cons, All-nil}
use Rattle.std.proofs.lemmas.List.Kept.{AllPairs-cons}
use Rattle.air_field.specs.Distinct.{Distinct}
use Rattle.air_field.specs.Domain.{IsDomain}
use Rattle.air_field.specs.Ring.{CommRing, AllZero}
use Rattle.air_field.specs.Powers.{power}
use Rattle.air_field.specs.laws.Distinct.{count_fewer}
use Rattle.air_field.specs.laws.Ring.{zero_add, one_mul, ring_rules}
use Rattle.air_field.specs.laws.RingSolver.{var, plus, times, ring}
use Rattle.air_field.specs.laws.Roots.{few_roots, poly_value}
use Rattle.air_recording.specs.Folds.{sum_by_powers}
use Rattle.air_folder.specs.laws.Fold.{sum_by_powers-first}
use Rattle.air_folder.specs.Hiding.{IsBelowAll, IsIncreasing}

-- the values in reverse order: the coefficients of their fold, lowest first
abbrev backwards : {A : Type 0} → List A → List A
backwards [] = []
backwards (v ∷ vs) = backwards vs ++ v ∷ []

backwards-length : {A : Type 0} (vs : List A) → length (backwards vs) ≡ length vs
backwards-length [] = refl
backwards-length (v ∷ vs) = length-append (backwards vs) (v ∷ []) ∙ (ap (λ n. n + 1) (backwards-length vs) ∙ omega arith)

module _ {A : Type 0} (r : CommRing A) where
  append_step : (c x p q s : A) → r.add c (r.mul x (r.add p (r.mul q s))) ≡ r.add (r.add c (r.mul x p)) (r.mul (r.mul q x) s)
  append_step c x p q s =
      ring r (c ∷ x ∷ p ∷ q ∷ s ∷ [])
      (plus (var 0) (times (var 1) (plus (var 2) (times (var 3) (var 4)))))
      (plus (plus (var 0) (times (var 1) (var 2))) (times (times (var 3) (var 1)) (var 4)))
      refl

  value-append : (cs ds : List A) (x : A) → poly_value r (cs ++ ds) x ≡ r.add (poly_value r cs x) (r.mul (power r x (length cs)) (poly_value r ds x))
  value-append [] ds x = sym (zero_add r (r.mul r.one (poly_value r ds x)) ∙ one_mul r (poly_value r ds x))
  value-append (c ∷ cs) ds x =
      ap (λ y. r.add c (r.mul x y)) (value-append cs ds x)
      ∙ append_step c x (poly_value r cs x) (power r x (length cs)) (poly_value r ds x)

  last_step : (w p v x : A) → r.add (r.mul p v) w ≡ r.add w (r.mul p (r.add v (r.mul x r.zero)))
  last_step w p v x = simp ring_rules

  sum_by_powers-backwards : (vs : List A) (x : A) → sum_by_powers r x vs ≡ poly_value r (backwards vs) x
  sum_by_powers-backwards [] x = refl
  sum_by_powers-backwards (v ∷ vs) x =
      sum_by_powers-first r x v vs
      ∙ (last_step (sum_by_powers r x vs) (power r x (length vs)) v x
      ∙ (ap₂ (λ w n. r.add w (r.mul (power r x n) (r.add v (r.mul x r.zero)))) (sum_by_powers-backwards vs x) (sym (backwards-length vs))
      ∙ sym (value-append (backwards vs) (v ∷ []) x)))

  all_zero-append : (cs : List A) (v : A) → AllZero r (cs ++ v ∷ []) → AllZero r cs × (v ≡ r.zero)
  all_zero-append [] v h = (tt, h.0)
  all_zero-append (c ∷ cs) v h = let rest : AllZero r cs × (v ≡ r.zero) = all_zero-append cs v h.1 in ((h.0, rest.0), rest.1)

  all_zero-backwards : (vs : List A) → AllZero r (backwards vs) → AllZero r vs
  all_zero-backwards [] h = tt
  all_zero-backwards (v ∷ vs) h =
      let rest : AllZero r (backwards vs) × (v ≡ r.zero) = all_zero-append (backwards vs) v h in (rest.1, all_zero-backwards vs rest.0)

  -- fewer elements than values fold the values to zero, unless all values are zero
  pub few_hide : IsDomain r → (p : A → Bool) (vs alphas : List A) → ((x : A) → p x ≡ true → sum_by_powers r x vs ≡ r.zero)
      → Distinct alphas → (AllZero r vs → ⊥) → count_by p alphas < length vs
  few_hide domain p vs alphas told distinct some =
      subst (λ n. count_by p alphas < n) (backwards-length vs)
      (count_fewer p (λ x h. sym (sum_by_powers-backwards vs x) ∙ told x h) alphas distinct
      (few_roots r domain (backwards vs) (λ none. some (all_zero-backwards vs none))))

-- ---- elements in increasing order
differs_from_above : {A : Type 0} (cmp : A → A → Ordering) → ((x : A) → cmp x x ≡ Equal) → (x : A) (ys : List A) → IsBelowAll cmp x ys → All (λ y. x ≢ y) ys
differs_from_above cmp own x [] h = All-nil (λ y. x ≢ y)
differs_from_above cmp own x (y ∷ ys) h =
    All-cons (λ z. x ≢ z) y ys (λ e. let same : Less ≡ Equal = sym h.0 ∙ (ap (cmp x) (sym e) ∙ own x) in cc) (differs_from_above cmp own x ys h.1)

distinct_of_increasing : {A : Type 0} (cmp : A → A → Ordering) → ((x : A) → cmp x x ≡ Equal) → (xs : List A) → IsIncreasing cmp xs → Distinct xs
distinct_of_increasing cmp own [] h = λ i j d lt within. absurd (omega (arith, within))
distinct_of_increasing cmp own (x ∷ xs) h =
    AllPairs-cons (λ y z. y ≢ z) x xs (differs_from_above cmp own x xs h.0) (distinct_of_increasing cmp own xs h.1)

own_reverse : (o : Ordering) → o ≡ ordering_reverse o → o ≡ Equal
own_reverse Less h = cc
own_reverse Equal h = refl
own_reverse Greater h = cc

pub increasing_distinct : {A : Type 0} (cmp : A → A → Ordering) → IsTotalOrder cmp → (xs : List A) → IsIncreasing cmp xs → Distinct xs
increasing_distinct cmp total xs h = distinct_of_increasing cmp (λ x. own_reverse (cmp x x) (total.antisymm x x)) xs h
