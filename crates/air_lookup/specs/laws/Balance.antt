-- If a value's multiplicities don't sum to zero, few elements let the entries balance.
use Rattle.std.specs.Prelude.{◌≡◌, ◌↔◌, suc, ◌<◌, List, [], ◌∷◌, length, Bool, true, false, not, cond, refl}
use Rattle.std.specs.List.{filter}
use Rattle.std.proofs.Common.{sym, ◌∙◌, ap, ap₂, inl, inr, arith}
use Rattle.std.proofs.lemmas.List.Elements.{All-weaker}
use Rattle.air_field.specs.Distinct.{AtMost}
use Rattle.air_field.specs.Domain.{IsDomain}
use Rattle.air_field.specs.Ring.{CommRing, AllZero, minus}
use Rattle.air_field.specs.laws.Ring.{mul_zero, zero_mul, ring_rules}
use Rattle.air_field.specs.laws.RingSolver.{var, plus, times, less, ring}
use Rattle.air_field.specs.laws.Roots.{few_roots, poly_value, same_of_minus}
use Rattle.air_lookup.specs.Balance.{Entry, sum_of, AreShares, Balances, total, others}
use Rattle.air_lookup.specs.laws.Polynomials.{linear, linear-length, shifted-value, add_scaled, add_scaled-length, add_scaled-value, value_of_none}

module _ {A : Type 0} (r : CommRing A) (eq : A → A → Bool) (v : A) where
  -- the product of X - f over the other values
  abbrev pub product : List (Entry A) → List A
  product [] = r.one ∷ []
  product (e ∷ es) = cond (eq e.value v) (product es) (linear r e.value r.zero (product es))

  -- that product, times X - v, times the sum of the shares
  abbrev pub cleared : List (Entry A) → List A
  cleared [] = r.zero ∷ []
  cleared (e ∷ es) = cond (eq e.value v)
      (add_scaled r e.multiplicity (cleared es) (product es))
      (add_scaled r e.multiplicity (linear r e.value r.zero (cleared es)) (linear r v r.zero (product es)))

  product-length : (es : List (Entry A)) → length (product es) ≡ suc (others eq v es)
  product-length [] = refl
  product-length (e ∷ es) =
      let kept : List (Entry A) = filter (λ o. not (eq o.value v)) es in
      elim (eq e.value v) as (λ b. length (cond b (product es) (linear r e.value r.zero (product es))) ≡ suc (length (cond (not b) (e ∷ kept) kept)))
      [ true ↦ product-length es | false ↦ linear-length r e.value r.zero (product es) ∙ ap suc (product-length es) ]

  pub cleared-length : (es : List (Entry A)) → length (cleared es) ≡ suc (others eq v es)
  cleared-length [] = refl
  cleared-length (e ∷ es) =
      let kept : List (Entry A) = filter (λ o. not (eq o.value v)) es in
      elim (eq e.value v) as (λ b. length (cond b
      (add_scaled r e.multiplicity (cleared es) (product es))
      (add_scaled r e.multiplicity (linear r e.value r.zero (cleared es)) (linear r v r.zero (product es)))) ≡ suc (length (cond (not b) (e ∷ kept) kept))) [
        | true ↦ add_scaled-length r e.multiplicity (cleared es) (product es) (suc (others eq v es)) (cleared-length es) (product-length es)
        | false ↦ add_scaled-length r e.multiplicity (linear r e.value r.zero (cleared es)) (linear r v r.zero (product es)) (suc (suc (others eq v es)))
            (linear-length r e.value r.zero (cleared es) ∙ ap suc (cleared-length es))
            (linear-length r v r.zero (product es) ∙ ap suc (product-length es))
      ]

  -- ---- its value where the entries have shares
  none_shared : (x : A) → r.add r.zero (r.mul x r.zero) ≡ r.mul (r.mul (minus r x v) r.zero) (r.add r.one (r.mul x r.zero))
  none_shared x = simp ring_rules

  same_shared : (x d s p : A) → r.add (r.mul (r.mul (minus r x v) s) p) (r.mul (r.mul (minus r x v) d) p) ≡ r.mul (r.mul (minus r x v) (r.add d s)) p
  same_shared x d s p =
      ring r (x ∷ v ∷ d ∷ s ∷ p ∷ [])
      (plus (times (times (less (var 0) (var 1)) (var 3)) (var 4)) (times (times (less (var 0) (var 1)) (var 2)) (var 4)))
      (times (times (less (var 0) (var 1)) (plus (var 2) (var 3))) (var 4))
      refl

  other_shared : (f x d s p : A)
      → r.add (r.mul (minus r x f) (r.mul (r.mul (minus r x v) s) p)) (r.mul (r.mul (minus r x f) d) (r.mul (minus r x v) p))
      ≡ r.mul (r.mul (minus r x v) (r.add d s)) (r.mul (minus r x f) p)
  other_shared f x d s p =
      ring r (x ∷ v ∷ f ∷ d ∷ s ∷ p ∷ [])
      (plus (times (less (var 0) (var 2)) (times (times (less (var 0) (var 1)) (var 4)) (var 5)))
      (times (times (less (var 0) (var 2)) (var 3)) (times (less (var 0) (var 1)) (var 5))))
      (times (times (less (var 0) (var 1)) (plus (var 3) (var 4))) (times (less (var 0) (var 2)) (var 5)))
      refl

  shared_step : (f m x d s : A) (cs ps : List A) (b : Bool) → (b ≡ true → f ≡ v) → r.mul (minus r x f) d ≡ m
      → poly_value r cs x ≡ r.mul (r.mul (minus r x v) s) (poly_value r ps x)
      → poly_value r (cond b (add_scaled r m cs ps) (add_scaled r m (linear r f r.zero cs) (linear r v r.zero ps))) x
      ≡ r.mul (r.mul (minus r x v) (r.add d s)) (poly_value r (cond b ps (linear r f r.zero ps)) x)
  shared_step f m x d s cs ps true same share h =
      add_scaled-value r m cs ps x
      ∙ (ap₂ (λ y k. r.add y (r.mul k (poly_value r ps x))) h (sym share ∙ ap (λ g. r.mul (minus r x g) d) (same refl))
      ∙ same_shared x d s (poly_value r ps x))
  shared_step f m x d s cs ps false same share h =
      let p = poly_value r ps x in
      add_scaled-value r m (linear r f r.zero cs) (linear r v r.zero ps) x
      ∙ (ap₂ (λ y z. r.add y (r.mul m z)) (shifted-value r f cs x ∙ ap (r.mul (minus r x f)) h) (shifted-value r v ps x)
      ∙ (ap (λ k. r.add (r.mul (minus r x f) (r.mul (r.mul (minus r x v) s) p)) (r.mul k (r.mul (minus r x v) p))) (sym share)
      ∙ (other_shared f x d s p
      ∙ ap (r.mul (r.mul (minus r x v) (r.add d s))) (sym (shifted-value r f ps x)))))

  -- ---- its value at v
  none_at : (x : A) → r.add r.zero (r.mul x r.zero) ≡ r.mul r.zero (r.add r.one (r.mul x r.zero))
  none_at x = simp ring_rules

  same_at : (m t p : A) → r.add (r.mul t p) (r.mul m p) ≡ r.mul (r.add m t) p
  same_at m t p = ring r (m ∷ t ∷ p ∷ []) (plus (times (var 1) (var 2)) (times (var 0) (var 2))) (times (plus (var 0) (var 1)) (var 2)) refl

  other_at : (f m t p : A) → r.add (r.mul (minus r v f) (r.mul t p)) (r.mul m (r.mul (minus r v v) p)) ≡ r.mul t (r.mul (minus r v f) p)
  other_at f m t p =
      ring r (v ∷ f ∷ m ∷ t ∷ p ∷ [])
      (plus (times (less (var 0) (var 1)) (times (var 3) (var 4))) (times (var 2) (times (less (var 0) (var 0)) (var 4))))
      (times (var 3) (times (less (var 0) (var 1)) (var 4)))
      refl

  at_step : (f m t : A) (cs ps : List A) (b : Bool) → poly_value r cs v ≡ r.mul t (poly_value r ps v)
      → poly_value r (cond b (add_scaled r m cs ps) (add_scaled r m (linear r f r.zero cs) (linear r v r.zero ps))) v
      ≡ r.mul (cond b (r.add m t) t) (poly_value r (cond b ps (linear r f r.zero ps)) v)
  at_step f m t cs ps true h =
      add_scaled-value r m cs ps v ∙ (ap (λ y. r.add y (r.mul m (poly_value r ps v))) h ∙ same_at m t (poly_value r ps v))
  at_step f m t cs ps false h =
      add_scaled-value r m (linear r f r.zero cs) (linear r v r.zero ps) v
      ∙ (ap₂ (λ y z. r.add y (r.mul m z)) (shifted-value r f cs v ∙ ap (r.mul (minus r v f)) h) (shifted-value r v ps v)
      ∙ (other_at f m t (poly_value r ps v) ∙ ap (r.mul t) (sym (shifted-value r f ps v))))

  cleared-at : (es : List (Entry A)) → poly_value r (cleared es) v ≡ r.mul (total r eq v es) (poly_value r (product es) v)
  cleared-at [] = none_at v
  cleared-at (e ∷ es) = at_step e.value e.multiplicity (total r eq v es) (cleared es) (product es) (eq e.value v) (cleared-at es)

  module _ (decides : (a b : A) → (eq a b ≡ true) ↔ (a ≡ b)) where
    cleared-shared : (x : A) (es : List (Entry A)) (ds : List A) → AreShares r x es ds
        → poly_value r (cleared es) x ≡ r.mul (r.mul (minus r x v) (sum_of r ds)) (poly_value r (product es) x)
    cleared-shared x [] [] h = none_shared x
    cleared-shared x [] (d ∷ ds) h = absurd h
    cleared-shared x (e ∷ es) [] h = absurd h
    cleared-shared x (e ∷ es) (d ∷ ds) h =
        shared_step e.value e.multiplicity x d (sum_of r ds) (cleared es) (product es) (eq e.value v) (decides e.value v).0 h.0 (cleared-shared x es ds h.1)

    -- if the entries balance, the element is a root
    cleared_root : (x : A) (es : List (Entry A)) → Balances r x es → poly_value r (cleared es) x ≡ r.zero
    cleared_root x es h =
        cleared-shared x es h.shares h.are_shares
        ∙ (ap (λ s. r.mul (r.mul (minus r x v) s) (poly_value r (product es) x)) h.sum
        ∙ (ap (λ y. r.mul y (poly_value r (product es) x)) (mul_zero r (minus r x v)) ∙ zero_mul r (poly_value r (product es) x)))

    module _ (domain : IsDomain r) (some : r.one ≡ r.zero → ⊥) where
      other_step : (f : A) (ps : List A) (b : Bool) → (b ≡ false → f ≡ v → ⊥) → (poly_value r ps v ≡ r.zero → ⊥)
          → poly_value r (cond b ps (linear r f r.zero ps)) v ≡ r.zero → ⊥
      other_step f ps true differs rest h = rest h
      other_step f ps false differs rest h =
          elim (domain (minus r v f) (poly_value r ps v) (sym (shifted-value r f ps v) ∙ h))
          [ inl same ↦ differs refl (same_of_minus r f v same) | inr none ↦ rest none ]

      unequal : (f : A) → eq f v ≡ false → f ≡ v → ⊥
      unequal f h e = let t : eq f v ≡ true = (decides f v).1 e in cc

      product-other : (es : List (Entry A)) → poly_value r (product es) v ≡ r.zero → ⊥
      product-other [] h = some (sym (r.add_zero r.one) ∙ (ap (r.add r.one) (sym (mul_zero r v)) ∙ h))
      product-other (e ∷ es) h = other_step e.value (product es) (eq e.value v) (unequal e.value) (product-other es) h

      pub cleared_some : (es : List (Entry A)) → (total r eq v es ≡ r.zero → ⊥) → AllZero r (cleared es) → ⊥
      cleared_some es other h =
          elim (domain (total r eq v es) (poly_value r (product es) v) (sym (cleared-at es) ∙ value_of_none r (cleared es) v h))
          [ inl none ↦ other none | inr none ↦ product-other es none ]

    -- a ring in which some total isn't zero isn't trivial
    pub one_of_total : (es : List (Entry A)) → (total r eq v es ≡ r.zero → ⊥) → r.one ≡ r.zero → ⊥
    one_of_total es other trivial =
        other (sym (r.mul_one (total r eq v es)) ∙ (ap (r.mul (total r eq v es)) trivial ∙ mul_zero r (total r eq v es)))

    -- if the multiplicities of v don't sum to zero, the entries balance at no more elements than there are others
    pub few_balance : IsDomain r → (es : List (Entry A)) → (total r eq v es ≡ r.zero → ⊥) → AtMost (λ x. Balances r x es) (others eq v es)
    few_balance domain es other alphas distinct all =
        let less : length alphas < length (cleared es) =
        few_roots r domain (cleared es) (cleared_some domain (one_of_total es other) es other) alphas distinct
        (All-weaker (λ x. Balances r x es) (λ x. poly_value r (cleared es) x ≡ r.zero) (λ x h. cleared_root x es h) alphas all) in
        omega (arith, less, cleared-length es)
