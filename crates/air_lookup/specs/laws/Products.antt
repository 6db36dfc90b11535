-- Two products of differences agree at few elements.
use Rattle.std.specs.Prelude.{◌≡◌, ◌↔◌, ℕ, zero, suc, ◌+◌, ◌-◌, ◌<◌, ◌≤◌, List, [], ◌∷◌, length, Bool, true, false, not, cond, refl}
use Rattle.std.specs.List.{filter}
use Rattle.std.proofs.Common.{sym, ◌∙◌, ap, ap₂, inl, inr, arith}
use Rattle.std.proofs.lemmas.Bool.{cases_lt}
use Rattle.std.proofs.lemmas.List.Elements.{All-weaker}
use Rattle.air_field.specs.Distinct.{AtMost, Distinct}
use Rattle.air_field.specs.Domain.{IsDomain}
use Rattle.air_field.specs.Powers.{power}
use Rattle.air_field.specs.Ring.{CommRing, AllZero, minus}
use Rattle.air_field.specs.laws.Ring.{mul_zero, zero_mul, neg_zero, mul_left_comm, ring_rules}
use Rattle.air_field.specs.laws.RingSolver.{var, times, less, ring}
use Rattle.air_field.specs.laws.Roots.{few_roots, poly_value, same_of_minus}
use Rattle.air_lookup.specs.Lookups.{occurrences}
use Rattle.air_lookup.specs.Products.{product_at, FewProductsAgree}
use Rattle.air_lookup.specs.laws.Lookups.{kept_at_most, kept_both}
use Rattle.air_lookup.specs.laws.Polynomials.{linear, linear-length, shifted-value, add_scaled-most, difference, difference-value, value_of_none}
use Rattle.air_lookup.specs.laws.Polynomials.{one_more, power-add, power_zero, raise, raise-length, raise-value, raise_zero}

-- 1, or 0 for 0
abbrev once : ℕ → ℕ
once zero = 0
once (suc k) = 1

once_most : (k : ℕ) → once k ≤ k
once_most zero = omega arith
once_most (suc k) = omega arith

module _ {A : Type 0} (r : CommRing A) where
  -- the polynomial of a product
  abbrev poly : List A → List A
  poly [] = r.one ∷ []
  poly (x ∷ xs) = linear r x r.zero (poly xs)

  poly-length : (xs : List A) → length (poly xs) ≡ suc (length xs)
  poly-length [] = refl
  poly-length (x ∷ xs) = linear-length r x r.zero (poly xs) ∙ ap suc (poly-length xs)

  one_value : (x : A) → r.add r.one (r.mul x r.zero) ≡ r.one
  one_value x = simp ring_rules

  poly-value : (xs : List A) (x : A) → poly_value r (poly xs) x ≡ product_at r x xs
  poly-value [] x = one_value x
  poly-value (y ∷ ys) x = shifted-value r y (poly ys) x ∙ ap (r.mul (minus r x y)) (poly-value ys x)

  module _ (v : A) (eq : A → A → Bool) (decides : (a b : A) → (eq a b ≡ true) ↔ (a ≡ b)) where
    abbrev rest : List A → List A
    rest xs = filter (λ x. not (eq x v)) xs

    split_step : (x alpha p : A) (f g : List A) (b : Bool) → (b ≡ true → x ≡ v) → p ≡ r.mul (power r (minus r alpha v) (length f)) (product_at r alpha g)
        → r.mul (minus r alpha x) p ≡ r.mul (power r (minus r alpha v) (length (cond b (x ∷ f) f))) (product_at r alpha (cond (not b) (x ∷ g) g))
    split_step x alpha p f g true same h =
        ap₂ (λ y q. r.mul (minus r alpha y) q) (same refl) h ∙ one_more r (minus r alpha v) (power r (minus r alpha v) (length f)) (product_at r alpha g)
    split_step x alpha p f g false same h =
        ap (r.mul (minus r alpha x)) h ∙ mul_left_comm r (minus r alpha x) (power r (minus r alpha v) (length f)) (product_at r alpha g)

    -- a product is a power of alpha - v times the product over the other elements
    split : (alpha : A) (xs : List A) → product_at r alpha xs ≡ r.mul (power r (minus r alpha v) (occurrences eq v xs)) (product_at r alpha (rest xs))
    split alpha [] = sym (r.mul_one r.one)
    split alpha (x ∷ xs) = split_step x alpha (product_at r alpha xs) (filter (λ y. eq y v) xs) (rest xs) (eq x v) (decides x v).0 (split alpha xs)

    module _ (domain : IsDomain r) (some : r.one ≡ r.zero → ⊥) where
      rest_step : (x : A) (g : List A) (b : Bool) → (b ≡ false → x ≡ v → ⊥) → (product_at r v g ≡ r.zero → ⊥)
          → product_at r v (cond (not b) (x ∷ g) g) ≡ r.zero → ⊥
      rest_step x g true differs none h = none h
      rest_step x g false differs none h =
          elim (domain (minus r v x) (product_at r v g) h) [ inl same ↦ differs refl (same_of_minus r x v same) | inr e ↦ none e ]

      unequal : (x : A) → eq x v ≡ false → x ≡ v → ⊥
      unequal x h e = let t : eq x v ≡ true = (decides x v).1 e in cc

      rest_some : (xs : List A) → product_at r v (rest xs) ≡ r.zero → ⊥
      rest_some [] h = some h
      rest_some (x ∷ xs) h = rest_step x (rest xs) (eq x v) (unequal x) (rest_some xs) h

      -- v occurs in ys j + 1 times more than in xs
      module _ (xs ys : List A) (j : ℕ) (more : occurrences eq v ys ≡ occurrences eq v xs + suc j) where
        -- the difference of the products, without the common power of alpha - v
        abbrev left : List A
        left = difference r (poly (rest xs)) (raise r v (suc j) (poly (rest ys)))

        left-value : (alpha : A) → poly_value r left alpha
            ≡ minus r (product_at r alpha (rest xs)) (r.mul (power r (minus r alpha v) (suc j)) (product_at r alpha (rest ys)))
        left-value alpha =
            difference-value r (poly (rest xs)) (raise r v (suc j) (poly (rest ys))) alpha
            ∙ ap₂ (minus r) (poly-value (rest xs) alpha)
            (raise-value r v (suc j) (poly (rest ys)) alpha ∙ ap (r.mul (power r (minus r alpha v) (suc j))) (poly-value (rest ys) alpha))

        gone : (p d s q : A) → d ≡ r.zero → minus r p (r.mul (r.mul s d) q) ≡ p
        gone p d s q e =
            ap (λ x. minus r p (r.mul (r.mul s x) q)) e
            ∙ (ap (minus r p) (ap (λ y. r.mul y q) (mul_zero r s) ∙ zero_mul r q) ∙ (ap (r.add p) (neg_zero r) ∙ r.add_zero p))

        left_some : AllZero r left → ⊥
        left_some h =
            rest_some xs
            (sym (gone (product_at r v (rest xs)) (minus r v v) (power r (minus r v v) j) (product_at r v (rest ys)) (r.add_neg v))
            ∙ (sym (left-value v) ∙ value_of_none r left v h))

        apart : (q x d y : A) → r.mul q x ≡ r.mul (r.mul q d) y → r.mul q (minus r x (r.mul d y)) ≡ r.zero
        apart q x d y h =
            ring r (q ∷ x ∷ d ∷ y ∷ [])
            (times (var 0) (less (var 1) (times (var 2) (var 3))))
            (less (times (var 0) (var 1)) (times (times (var 0) (var 2)) (var 3)))
            refl
            ∙ (ap (λ z. minus r z (r.mul (r.mul q d) y)) h ∙ r.add_neg (r.mul (r.mul q d) y))

        -- if the products agree, a power of alpha - v times this difference is zero
        agreed : (alpha : A) → product_at r alpha xs ≡ product_at r alpha ys
            → r.mul (power r (minus r alpha v) (occurrences eq v xs)) (poly_value r left alpha) ≡ r.zero
        agreed alpha h =
            let d = minus r alpha v in
            let k = occurrences eq v xs in
            ap (r.mul (power r d k)) (left-value alpha)
            ∙ apart (power r d k) (product_at r alpha (rest xs)) (power r d (suc j)) (product_at r alpha (rest ys))
            (sym (split alpha xs) ∙ (h ∙ (split alpha ys
            ∙ ap (λ q. r.mul q (product_at r alpha (rest ys))) (ap (power r d) more ∙ power-add r d k (suc j)))))

        once_zero : (k : ℕ) (d h : A) → r.mul (power r d k) h ≡ r.zero → r.mul (power r d (once k)) h ≡ r.zero
        once_zero zero d h e = e
        once_zero (suc k) d h e =
            elim (domain (power r d (suc k)) h e) [
              | inl z ↦ ap (λ x. r.mul (r.mul r.one x) h) (power_zero r domain some d (suc k) z) ∙ (ap (λ x. r.mul x h) (mul_zero r r.one) ∙ zero_mul r h)
              | inr z ↦ ap (r.mul (r.mul r.one d)) z ∙ mul_zero r (r.mul r.one d)
            ]

        most : (k m : ℕ) → length (poly (rest xs)) + k ≤ m → length (raise r v (suc j) (poly (rest ys))) + k ≤ m → length left + k ≤ m
        most zero m h i =
            let z = add_scaled-most r (r.neg r.one) (poly (rest xs)) (raise r v (suc j) (poly (rest ys))) m (omega (arith, h)) (omega (arith, i)) in
            omega (arith, z)
        most (suc k) zero h i = absurd (omega (arith, h))
        most (suc k) (suc m) h i = let z = most k m (omega (arith, h)) (omega (arith, i)) in omega (arith, z)

        few_agree : (n : ℕ) → length xs ≤ n → length ys ≤ n → AtMost (λ alpha. product_at r alpha xs ≡ product_at r alpha ys) n
        few_agree n hx hy alphas distinct all =
            let k : ℕ = occurrences eq v xs in
            let both = kept_both (λ x. eq x v) xs in
            let others = kept_both (λ x. eq x v) ys in
            let e : ℕ = once k in
            let small : e ≤ k = once_most k in
            let first : length (poly (rest xs)) + k ≤ suc n = omega (arith, poly-length (rest xs), both, hx) in
            let second : length (raise r v (suc j) (poly (rest ys))) + k ≤ suc n =
            omega (arith, raise-length r v (suc j) (poly (rest ys)), poly-length (rest ys), others, more, hy) in
            let long : length left + k ≤ suc n = most k (suc n) first second in
            let less : length alphas < length (raise r v e left) =
            few_roots r domain (raise r v e left) (λ h. left_some (raise_zero r v e left h)) alphas distinct
            (All-weaker (λ alpha. product_at r alpha xs ≡ product_at r alpha ys) (λ alpha. poly_value r (raise r v e left) alpha ≡ r.zero)
            (λ alpha h. raise-value r v e left alpha ∙ once_zero k (minus r alpha v) (poly_value r left alpha) (agreed alpha h)) alphas all) in
            omega (arith, less, long, small, raise-length r v e left)

module _ {A : Type 0} (r : CommRing A) (eq : A → A → Bool) (decides : (a b : A) → (eq a b ≡ true) ↔ (a ≡ b)) (domain : IsDomain r) where
  trivial_zero : r.one ≡ r.zero → (x : A) → x ≡ r.zero
  trivial_zero trivial x = sym (r.mul_one x) ∙ (ap (r.mul x) trivial ∙ mul_zero r x)

  -- a trivial ring has one element
  one_element : r.one ≡ r.zero → (xs : List A) → Distinct xs → length xs ≤ 1
  one_element trivial [] distinct = omega arith
  one_element trivial (x ∷ []) distinct = omega arith
  one_element trivial (x ∷ y ∷ ys) distinct =
      absurd (distinct 0 1 x (omega arith) (omega arith) (trivial_zero trivial x ∙ sym (trivial_zero trivial y)))

  agree_at_most : (trivial : Bool) → (trivial ≡ true → r.one ≡ r.zero) → (trivial ≡ false → r.one ≡ r.zero → ⊥) → FewProductsAgree r eq
  agree_at_most true is none xs ys v differ n hx hy alphas distinct all =
      let k = kept_at_most (λ x. eq x v) xs in
      let l = kept_at_most (λ x. eq x v) ys in
      omega (arith, one_element (is refl) alphas distinct, differ, hx, hy, k, l)
  agree_at_most false is none xs ys v differ n hx hy alphas distinct all =
      let some = none refl in
      let k : ℕ = occurrences eq v xs in
      let l : ℕ = occurrences eq v ys in
      elim (cases_lt k l) [
        | inl less ↦ few_agree r v eq decides domain some xs ys (l - suc k) (omega (arith, less)) n hx hy alphas distinct all
        | inr more ↦
            few_agree r v eq decides domain some ys xs (k - suc l) (omega (arith, more, differ)) n hy hx alphas distinct
            (All-weaker (λ alpha. product_at r alpha xs ≡ product_at r alpha ys) (λ alpha. product_at r alpha ys ≡ product_at r alpha xs)
            (λ alpha h. sym h) alphas all)
      ]

  pub few_products_agree : FewProductsAgree r eq
  few_products_agree =
      agree_at_most (eq r.one r.zero) (λ h. (decides r.one r.zero).0 h) (λ h e. let t : eq r.one r.zero ≡ true = (decides r.one r.zero).1 e in cc)
