-- Few elements let groups of entries balance.
use Rattle.std.specs.Prelude.{◌≡◌, ◌↔◌, ℕ, ◌<◌, List, [], ◌∷◌, ◌++◌, length, Bool, true, false, cond, refl}
use Rattle.std.specs.List.{filter}
use Rattle.std.proofs.Common.{sym, ◌∙◌, ap, ap₂, inl, inr, arith}
use Rattle.std.proofs.lemmas.List.Elements.{All-weaker}
use Rattle.air_field.specs.Domain.{IsDomain}
use Rattle.air_field.specs.Powers.{power}
use Rattle.air_field.specs.Ring.{CommRing, minus}
use Rattle.air_field.specs.laws.Ring.{zero_add, mul_zero, zero_mul, one_mul, mul_left_comm, ring_rules}
use Rattle.air_field.specs.laws.RingSolver.{var, plus, times, ring}
use Rattle.air_field.specs.laws.Roots.{few_roots, poly_value}
use Rattle.air_lookup.specs.Balance.{Entry, sum_of}
use Rattle.air_lookup.specs.Groups.{denominator, numerator, AreGroupShares, GroupsBalance, entries_of, FewGroupsBalance}
use Rattle.air_lookup.specs.laws.Balance.{product, cleared, cleared-length, cleared_some, one_of_total}
use Rattle.air_lookup.specs.laws.Polynomials.{linear, shifted-value, add_scaled, add_scaled-value, one_more, power_zero, raise, raise-length, raise_zero}

module _ {A : Type 0} (r : CommRing A) where
  module _ (alpha : A) where
    denominator-append : (xs ys : List (Entry A)) → denominator r alpha (xs ++ ys) ≡ r.mul (denominator r alpha xs) (denominator r alpha ys)
    denominator-append [] ys = sym (one_mul r (denominator r alpha ys))
    denominator-append (x ∷ xs) ys =
        ap (r.mul (minus r alpha x.value)) (denominator-append xs ys)
        ∙ sym (r.mul_assoc (minus r alpha x.value) (denominator r alpha xs) (denominator r alpha ys))

    append_none : (d n : A) → n ≡ r.add (r.mul r.zero d) (r.mul r.one n)
    append_none d n = sym (ap₂ r.add (zero_mul r d) (one_mul r n) ∙ zero_add r n)

    append_step : (m x dx dy nx ny : A) → r.add (r.mul m (r.mul dx dy)) (r.mul x (r.add (r.mul nx dy) (r.mul dx ny)))
        ≡ r.add (r.mul (r.add (r.mul m dx) (r.mul x nx)) dy) (r.mul (r.mul x dx) ny)
    append_step m x dx dy nx ny =
        ring r (m ∷ x ∷ dx ∷ dy ∷ nx ∷ ny ∷ [])
        (plus (times (var 0) (times (var 2) (var 3))) (times (var 1) (plus (times (var 4) (var 3)) (times (var 2) (var 5)))))
        (plus (times (plus (times (var 0) (var 2)) (times (var 1) (var 4))) (var 3)) (times (times (var 1) (var 2)) (var 5)))
        refl

    numerator-append : (xs ys : List (Entry A)) → numerator r alpha (xs ++ ys)
        ≡ r.add (r.mul (numerator r alpha xs) (denominator r alpha ys)) (r.mul (denominator r alpha xs) (numerator r alpha ys))
    numerator-append [] ys = append_none (denominator r alpha ys) (numerator r alpha ys)
    numerator-append (x ∷ xs) ys =
        ap₂ (λ p q. r.add (r.mul x.multiplicity p) (r.mul (minus r alpha x.value) q)) (denominator-append xs ys) (numerator-append xs ys)
        ∙ append_step x.multiplicity (minus r alpha x.value) (denominator r alpha xs) (denominator r alpha ys) (numerator r alpha xs) (numerator r alpha ys)

    group_step : (d s p q : A) → r.add (r.mul (r.mul d p) q) (r.mul p (r.mul s q)) ≡ r.mul (r.add d s) (r.mul p q)
    group_step d s p q =
        ring r (d ∷ s ∷ p ∷ q ∷ [])
        (plus (times (times (var 0) (var 2)) (var 3)) (times (var 2) (times (var 1) (var 3))))
        (times (plus (var 0) (var 1)) (times (var 2) (var 3)))
        refl

    -- the numerator of all is the sum of the shares times the denominator of all
    all_numerator : (gs : List (List (Entry A))) (ds : List A) → AreGroupShares r alpha gs ds
        → numerator r alpha (entries_of gs) ≡ r.mul (sum_of r ds) (denominator r alpha (entries_of gs))
    all_numerator [] [] h = sym (zero_mul r r.one)
    all_numerator [] (d ∷ ds) h = absurd h
    all_numerator (g ∷ gs) [] h = absurd h
    all_numerator (g ∷ gs) (d ∷ ds) h =
        numerator-append g (entries_of gs)
        ∙ (ap₂ (λ x y. r.add (r.mul x (denominator r alpha (entries_of gs))) (r.mul (denominator r alpha g) y)) (sym h.0) (all_numerator gs ds h.1)
        ∙ (group_step d (sum_of r ds) (denominator r alpha g) (denominator r alpha (entries_of gs))
        ∙ ap (r.mul (r.add d (sum_of r ds))) (sym (denominator-append g (entries_of gs)))))

  module _ (eq : A → A → Bool) (v : A) (decides : (a b : A) → (eq a b ≡ true) ↔ (a ≡ b)) where
    abbrev times_of : List (Entry A) → ℕ
    times_of es = length (filter (λ e. eq e.value v) es)

    one_value : (x : A) → r.one ≡ r.mul r.one (r.add r.one (r.mul x r.zero))
    one_value x = simp ring_rules

    den_step : (f alpha q : A) (e : Entry A) (kept : List (Entry A)) (ps : List A) (b : Bool) → (b ≡ true → f ≡ v)
        → q ≡ r.mul (power r (minus r alpha v) (length kept)) (poly_value r ps alpha)
        → r.mul (minus r alpha f) q
        ≡ r.mul (power r (minus r alpha v) (length (cond b (e ∷ kept) kept))) (poly_value r (cond b ps (linear r f r.zero ps)) alpha)
    den_step f alpha q e kept ps true same h =
        ap₂ (λ y z. r.mul (minus r alpha y) z) (same refl) h ∙ one_more r (minus r alpha v) (power r (minus r alpha v) (length kept)) (poly_value r ps alpha)
    den_step f alpha q e kept ps false same h =
        ap (r.mul (minus r alpha f)) h
        ∙ (mul_left_comm r (minus r alpha f) (power r (minus r alpha v) (length kept)) (poly_value r ps alpha)
        ∙ ap (r.mul (power r (minus r alpha v) (length kept))) (sym (shifted-value r f ps alpha)))

    -- the denominator is a power of alpha - v times the product of the other differences
    den_is : (alpha : A) (es : List (Entry A))
        → denominator r alpha es ≡ r.mul (power r (minus r alpha v) (times_of es)) (poly_value r (product r eq v es) alpha)
    den_is alpha [] = one_value alpha
    den_is alpha (e ∷ es) =
        den_step e.value alpha (denominator r alpha es) e (filter (λ o. eq o.value v) es) (product r eq v es) (eq e.value v)
        (decides e.value v).0 (den_is alpha es)

    same_num : (d k c m p n q : A) → r.mul k c ≡ r.mul d n → q ≡ r.mul k p → r.mul (r.mul k d) (r.add c (r.mul m p)) ≡ r.mul d (r.add (r.mul m q) (r.mul d n))
    same_num d k c m p n q h i =
        ring r (d ∷ k ∷ c ∷ m ∷ p ∷ [])
        (times (times (var 1) (var 0)) (plus (var 2) (times (var 3) (var 4))))
        (times (var 0) (plus (times (var 3) (times (var 1) (var 4))) (times (var 1) (var 2))))
        refl
        ∙ ap₂ (λ x y. r.mul d (r.add (r.mul m x) y)) (sym i) h

    other_num : (d f k c m p n q : A) → r.mul k c ≡ r.mul d n → q ≡ r.mul k p
        → r.mul k (r.add (r.mul f c) (r.mul m (r.mul d p))) ≡ r.mul d (r.add (r.mul m q) (r.mul f n))
    other_num d f k c m p n q h i =
        ring r (d ∷ f ∷ k ∷ c ∷ m ∷ p ∷ [])
        (times (var 2) (plus (times (var 1) (var 3)) (times (var 4) (times (var 0) (var 5)))))
        (plus (times (var 1) (times (var 2) (var 3))) (times (var 0) (times (var 4) (times (var 2) (var 5)))))
        refl
        ∙ (ap₂ (λ x y. r.add (r.mul f x) (r.mul d (r.mul m y))) h (sym i)
        ∙ ring r (d ∷ f ∷ m ∷ n ∷ q ∷ [])
        (plus (times (var 1) (times (var 0) (var 3))) (times (var 0) (times (var 2) (var 4))))
        (times (var 0) (plus (times (var 2) (var 4)) (times (var 1) (var 3))))
        refl)

    num_step : (f m alpha n q : A) (e : Entry A) (kept : List (Entry A)) (cs ps : List A) (b : Bool) → (b ≡ true → f ≡ v)
        → r.mul (power r (minus r alpha v) (length kept)) (poly_value r cs alpha) ≡ r.mul (minus r alpha v) n
        → q ≡ r.mul (power r (minus r alpha v) (length kept)) (poly_value r ps alpha)
        → r.mul (power r (minus r alpha v) (length (cond b (e ∷ kept) kept)))
        (poly_value r (cond b (add_scaled r m cs ps) (add_scaled r m (linear r f r.zero cs) (linear r v r.zero ps))) alpha)
        ≡ r.mul (minus r alpha v) (r.add (r.mul m q) (r.mul (minus r alpha f) n))
    num_step f m alpha n q e kept cs ps true same h i =
        ap (r.mul (r.mul (power r (minus r alpha v) (length kept)) (minus r alpha v))) (add_scaled-value r m cs ps alpha)
        ∙ (same_num (minus r alpha v) (power r (minus r alpha v) (length kept)) (poly_value r cs alpha) m (poly_value r ps alpha) n q h i
        ∙ ap (λ y. r.mul (minus r alpha v) (r.add (r.mul m q) (r.mul (minus r alpha y) n))) (sym (same refl)))
    num_step f m alpha n q e kept cs ps false same h i =
        ap (r.mul (power r (minus r alpha v) (length kept)))
        (add_scaled-value r m (linear r f r.zero cs) (linear r v r.zero ps) alpha
        ∙ ap₂ (λ y z. r.add y (r.mul m z)) (shifted-value r f cs alpha) (shifted-value r v ps alpha))
        ∙ other_num (minus r alpha v) (minus r alpha f) (power r (minus r alpha v) (length kept)) (poly_value r cs alpha) m (poly_value r ps alpha) n q h i

    none_num : (x d : A) → r.mul r.one (r.add r.zero (r.mul x r.zero)) ≡ r.mul d r.zero
    none_num x d = simp ring_rules

    -- that power times the cleared polynomial is alpha - v times the numerator
    num_is : (alpha : A) (es : List (Entry A))
        → r.mul (power r (minus r alpha v) (times_of es)) (poly_value r (cleared r eq v es) alpha) ≡ r.mul (minus r alpha v) (numerator r alpha es)
    num_is alpha [] = none_num alpha (minus r alpha v)
    num_is alpha (e ∷ es) =
        num_step e.value e.multiplicity alpha (numerator r alpha es) (denominator r alpha es) e (filter (λ o. eq o.value v) es) (cleared r eq v es)
        (product r eq v es) (eq e.value v) (decides e.value v).0 (num_is alpha es) (den_is alpha es)

    module _ (domain : IsDomain r) (some : r.one ≡ r.zero → ⊥) where
      once : (d h : A) (k : ℕ) → r.mul (power r d k) h ≡ r.zero → r.mul d h ≡ r.zero
      once d h k e =
          elim (domain (power r d k) h e) [
            | inl z ↦ ap (λ x. r.mul x h) (power_zero r domain some d k z) ∙ zero_mul r h
            | inr z ↦ ap (r.mul d) z ∙ mul_zero r d
          ]

      -- if the groups balance, the element is a root of (X - v) times the cleared polynomial
      root : (alpha : A) (gs : List (List (Entry A))) → GroupsBalance r alpha gs → poly_value r (raise r v 1 (cleared r eq v (entries_of gs))) alpha ≡ r.zero
      root alpha gs h =
          let es = entries_of gs in
          let none : numerator r alpha es ≡ r.zero =
          all_numerator alpha gs h.shares h.are_shares ∙ (ap (λ s. r.mul s (denominator r alpha es)) h.sum ∙ zero_mul r (denominator r alpha es)) in
          shifted-value r v (cleared r eq v es) alpha
          ∙ once (minus r alpha v) (poly_value r (cleared r eq v es) alpha) (times_of es)
          (num_is alpha es ∙ (ap (r.mul (minus r alpha v)) none ∙ mul_zero r (minus r alpha v)))

module _ {A : Type 0} (r : CommRing A) (eq : A → A → Bool) (decides : (a b : A) → (eq a b ≡ true) ↔ (a ≡ b)) (domain : IsDomain r) where
  pub few_groups_balance : FewGroupsBalance r eq
  few_groups_balance gs v other alphas distinct all =
      let es : List (Entry A) = entries_of gs in
      let some : r.one ≡ r.zero → ⊥ = one_of_total r eq v decides es other in
      let less : length alphas < length (raise r v 1 (cleared r eq v es)) =
      few_roots r domain (raise r v 1 (cleared r eq v es))
      (λ h. cleared_some r eq v decides domain some es other (raise_zero r v 1 (cleared r eq v es) h)) alphas distinct
      (All-weaker (λ alpha. GroupsBalance r alpha gs) (λ alpha. poly_value r (raise r v 1 (cleared r eq v es)) alpha ≡ r.zero)
      (λ alpha h. root r eq v decides domain some alpha gs h) alphas all) in
      omega (arith, less, raise-length r v 1 (cleared r eq v es), cleared-length r eq v es)
