-- The lists of four coefficients are a domain modulo X^4 - w, over a domain where -1 is a square and w isn't.
use Rattle.std.specs.Prelude.{◌≡◌, ◌⊎◌, refl, List, [], ◌∷◌, length}
use Rattle.std.proofs.Common.{sym, ◌∙◌, ap, ap₂, inl, inr}
use Rattle.air_field.specs.Ring.{CommRing, minus}
use Rattle.air_field.specs.RingOps.{ops}
use Rattle.air_field.specs.Domain.{IsDomain, IsNoRatio}
use Rattle.air_field.specs.Coefficients.{binomial_mul, constant_four, poly_scale}
use Rattle.air_field.specs.laws.Ring.{zero_add, mul_zero, zero_mul, ring_rules}
use Rattle.air_field.specs.laws.RingSolver.{var, plus, times, less, opp, nought, expr_ops, vars, ring_list}
use Rattle.air_field.specs.laws.FourCoefficients.{by_four, four_mul_assoc, four_mul_comm, four_scale}

both_or : {Z P Q : Type 0} → Z ⊎ P → Z ⊎ Q → Z ⊎ (P × Q)
both_or (inl z) _ = inl z
both_or (inr x) (inl z) = inl z
both_or (inr x) (inr y) = inr (x, y)

module _ {A : Type 0} (R : CommRing A) (w : A) where
  -- ---- the norm of a + b X + c X^2 + d X^3

  -- the product by a - b X + c X^2 - d X^3 is even + odd X^2
  abbrev pub even : A → A → A → A → A
  even a b c d = minus R (R.add (R.mul a a) (R.mul w (R.mul c c))) (R.mul w (R.add (R.mul b d) (R.mul b d)))

  abbrev pub odd : A → A → A → A → A
  odd a b c d = minus R (R.add (R.mul a c) (R.mul a c)) (R.add (R.mul b b) (R.mul w (R.mul d d)))

  -- the norm of x + y X^2, where X^2 is a root of w
  abbrev norm_two : A → A → A
  norm_two x y = minus R (R.mul x x) (R.mul w (R.mul y y))

  abbrev pub norm : A → A → A → A → A
  norm a b c d = norm_two (even a b c d) (odd a b c d)

  -- the factor that gives its norm
  abbrev pub adjugate : A → A → A → A → List A
  adjugate a b c d =
      binomial_mul (ops R) w (a ∷ R.neg b ∷ c ∷ R.neg d ∷ []) (even a b c d ∷ R.zero ∷ R.neg (odd a b c d) ∷ R.zero ∷ [])

  pub first_product : (a b c d : A) → binomial_mul (ops R) w (a ∷ b ∷ c ∷ d ∷ []) (a ∷ R.neg b ∷ c ∷ R.neg d ∷ [])
      ≡ even a b c d ∷ R.zero ∷ odd a b c d ∷ R.zero ∷ []
  first_product a b c d =
      ring_list R (a ∷ b ∷ c ∷ d ∷ w ∷ [])
      (binomial_mul expr_ops (var 4) (vars 0 4) (var 0 ∷ opp (var 1) ∷ var 2 ∷ opp (var 3) ∷ []))
      (less (plus (times (var 0) (var 0)) (times (var 4) (times (var 2) (var 2)))) (times (var 4) (plus (times (var 1) (var 3)) (times (var 1) (var 3))))
      ∷ nought
      ∷ less (plus (times (var 0) (var 2)) (times (var 0) (var 2))) (plus (times (var 1) (var 1)) (times (var 4) (times (var 3) (var 3))))
      ∷ nought
      ∷ [])
      refl

  second_product : (e o : A) → binomial_mul (ops R) w (e ∷ R.zero ∷ o ∷ R.zero ∷ []) (e ∷ R.zero ∷ R.neg o ∷ R.zero ∷ []) ≡ constant_four (ops R) (norm_two e o)
  second_product e o =
      ring_list R (e ∷ o ∷ w ∷ [])
      (binomial_mul expr_ops (var 2) (var 0 ∷ nought ∷ var 1 ∷ nought ∷ []) (var 0 ∷ nought ∷ opp (var 1) ∷ nought ∷ []))
      (constant_four expr_ops (less (times (var 0) (var 0)) (times (var 2) (times (var 1) (var 1)))))
      refl

  pub times_adjugate : (a b c d : A) → binomial_mul (ops R) w (a ∷ b ∷ c ∷ d ∷ []) (adjugate a b c d) ≡ constant_four (ops R) (norm a b c d)
  times_adjugate a b c d =
      let second = even a b c d ∷ R.zero ∷ R.neg (odd a b c d) ∷ R.zero ∷ [] in
      sym (four_mul_assoc R w (a ∷ b ∷ c ∷ d ∷ []) (a ∷ R.neg b ∷ c ∷ R.neg d ∷ []) second refl refl refl)
      ∙ (ap (λ l. binomial_mul (ops R) w l second) (first_product a b c d) ∙ second_product (even a b c d) (odd a b c d))

  -- if its product with q is zero, so is q times its norm
  norm_times : (a b c d : A) (q : List A) → length q ≡ 4 → binomial_mul (ops R) w (a ∷ b ∷ c ∷ d ∷ []) q ≡ constant_four (ops R) R.zero
      → poly_scale (ops R) (norm a b c d) q ≡ poly_scale (ops R) R.zero (adjugate a b c d)
  norm_times a b c d q hq h =
      let p = a ∷ b ∷ c ∷ d ∷ [] in
      sym (four_scale R w (norm a b c d) q hq)
      ∙ (ap (λ l. binomial_mul (ops R) w l q) (sym (times_adjugate a b c d))
      ∙ (four_mul_assoc R w p (adjugate a b c d) q refl refl hq
      ∙ (ap (binomial_mul (ops R) w p) (four_mul_comm R w (adjugate a b c d) q refl hq)
      ∙ (sym (four_mul_assoc R w p q (adjugate a b c d) refl hq refl)
      ∙ (ap (λ l. binomial_mul (ops R) w l (adjugate a b c d)) h
      ∙ four_scale R w R.zero (adjugate a b c d) refl)))))

  -- ---- the norm is zero only for zero

  pub same_of_minus : (x y : A) → minus R x y ≡ R.zero → x ≡ y
  same_of_minus x y h =
      let back : x ≡ R.add (minus R x y) y = simp ring_rules in
      back ∙ (ap (λ z. R.add z y) h ∙ zero_add R y)

  square-norm_two : (a c : A) → R.mul (norm_two a c) (norm_two a c) ≡ norm_two (R.add (R.mul a a) (R.mul w (R.mul c c))) (R.add (R.mul a c) (R.mul a c))
  square-norm_two a c = simp ring_rules

  turned-norm_two : (b d : A) → norm_two (R.mul w (R.add (R.mul b d) (R.mul b d))) (R.add (R.mul b b) (R.mul w (R.mul d d))) ≡ R.neg (R.mul w (R.mul (norm_two b d) (norm_two b d)))
  turned-norm_two b d = simp ring_rules

  module _ (domain : IsDomain R) (no_ratio : IsNoRatio R w) (root : A) (minus_one : R.mul root root ≡ R.neg R.one) where
    square_nil : (x : A) → R.mul x x ≡ R.zero → x ≡ R.zero
    square_nil x h = elim (domain x x h) [ inl e ↦ e | inr e ↦ e ]

    both_nil : (x y : A) → R.mul x x ≡ R.mul w (R.mul y y) → (x ≡ R.zero) × (y ≡ R.zero)
    both_nil x y h =
        let e : y ≡ R.zero = no_ratio x y h in
        (square_nil x (h ∙ (ap (λ z. R.mul w (R.mul z z)) e ∙ (ap (R.mul w) (mul_zero R R.zero) ∙ mul_zero R w))), e)

    norm_two-nil : (x y : A) → norm_two x y ≡ R.zero → (x ≡ R.zero) × (y ≡ R.zero)
    norm_two-nil x y h = both_nil x y (same_of_minus (R.mul x x) (R.mul w (R.mul y y)) h)

    -- - w y^2 is w (root y)^2
    both_nil_neg : (x y : A) → R.mul x x ≡ R.neg (R.mul w (R.mul y y)) → (x ≡ R.zero) × (y ≡ R.zero)
    both_nil_neg x y h =
        let moved : R.mul w (R.mul (R.mul root y) (R.mul root y)) ≡ R.mul (R.mul root root) (R.mul w (R.mul y y)) = simp ring_rules in
        let turned : R.mul (R.neg R.one) (R.mul w (R.mul y y)) ≡ R.neg (R.mul w (R.mul y y)) = simp ring_rules in
        let both : (x ≡ R.zero) × (R.mul root y ≡ R.zero) = both_nil x (R.mul root y) (h ∙ sym (moved ∙ (ap (λ z. R.mul z (R.mul w (R.mul y y))) minus_one ∙ turned))) in
        let own : y ≡ R.neg (R.mul (R.neg R.one) y) = simp ring_rules in
        let own_nil : R.neg (R.mul root R.zero) ≡ R.zero = simp ring_rules in (
          both.0,
          own ∙ (ap (λ z. R.neg (R.mul z y)) (sym minus_one) ∙ (ap R.neg (R.mul_assoc root root y) ∙ (ap (λ z. R.neg (R.mul root z)) both.1 ∙ own_nil))),
        )

    -- (a + c X^2)^2 is then X^2 (b + d X^2)^2, and so are the norms of both sides
    pub norm_nil : (a b c d : A) → norm a b c d ≡ R.zero → a ∷ b ∷ c ∷ d ∷ [] ≡ constant_four (ops R) R.zero
    norm_nil a b c d h =
        let parts : (even a b c d ≡ R.zero) × (odd a b c d ≡ R.zero) = norm_two-nil (even a b c d) (odd a b c d) h in
        let both : (norm_two a c ≡ R.zero) × (norm_two b d ≡ R.zero) =
        both_nil_neg (norm_two a c) (norm_two b d)
        (square-norm_two a c ∙ (ap₂ norm_two (same_of_minus _ _ parts.0) (same_of_minus _ _ parts.1) ∙ turned-norm_two b d)) in
        let first : (a ≡ R.zero) × (c ≡ R.zero) = norm_two-nil a c both.0 in
        let second : (b ≡ R.zero) × (d ≡ R.zero) = norm_two-nil b d both.1 in
        λ i. first.0 i ∷ second.0 i ∷ first.1 i ∷ second.1 i ∷ []

    split : (n x z : A) → R.mul n x ≡ R.mul R.zero z → (n ≡ R.zero) ⊎ (x ≡ R.zero)
    split n x z h = domain n x (h ∙ zero_mul R z)

    all_nil : (n e f g h p q r s : A) → R.mul n e ∷ R.mul n f ∷ R.mul n g ∷ R.mul n h ∷ [] ≡ R.mul R.zero p ∷ R.mul R.zero q ∷ R.mul R.zero r ∷ R.mul R.zero s ∷ []
        → (n ≡ R.zero) ⊎ (e ∷ f ∷ g ∷ h ∷ [] ≡ constant_four (ops R) R.zero)
    all_nil n e f g h p q r s k =
        elim (both_or (split n e p cc) (both_or (split n f q cc) (both_or (split n g r cc) (split n h s cc)))) [
          | inl z ↦ inl z
          | inr all ↦ inr (λ i. all.0 i ∷ all.1.0 i ∷ all.1.1.0 i ∷ all.1.1.1 i ∷ [])
        ]

    four_domain_at : (a b c d e f g h : A) → binomial_mul (ops R) w (a ∷ b ∷ c ∷ d ∷ []) (e ∷ f ∷ g ∷ h ∷ []) ≡ constant_four (ops R) R.zero
        → (a ∷ b ∷ c ∷ d ∷ [] ≡ constant_four (ops R) R.zero) ⊎ (e ∷ f ∷ g ∷ h ∷ [] ≡ constant_four (ops R) R.zero)
    four_domain_at a b c d e f g h k =
        elim (all_nil (norm a b c d) e f g h _ _ _ _ (norm_times a b c d (e ∷ f ∷ g ∷ h ∷ []) refl k)) [
          | inl n ↦ inl (norm_nil a b c d n)
          | inr z ↦ inr z
        ]

    pub four_domain : (p q : List A) → length p ≡ 4 → length q ≡ 4 → binomial_mul (ops R) w p q ≡ constant_four (ops R) R.zero
        → (p ≡ constant_four (ops R) R.zero) ⊎ (q ≡ constant_four (ops R) R.zero)
    four_domain p q hp hq =
        by_four
        (λ l. binomial_mul (ops R) w l q ≡ constant_four (ops R) R.zero → (l ≡ constant_four (ops R) R.zero) ⊎ (q ≡ constant_four (ops R) R.zero))
        (λ a b c d.
        by_four
        (λ m. binomial_mul (ops R) w (a ∷ b ∷ c ∷ d ∷ []) m ≡ constant_four (ops R) R.zero → (a ∷ b ∷ c ∷ d ∷ [] ≡ constant_four (ops R) R.zero) ⊎ (m ≡ constant_four (ops R) R.zero))
        (λ e f g h. four_domain_at a b c d e f g h) q hq) p hp

    scaled_inverse : (n v : A) → R.mul n v ≡ R.one → poly_scale (ops R) n (constant_four (ops R) v) ≡ constant_four (ops R) R.one
    scaled_inverse n v e = λ i. e i ∷ mul_zero R n i ∷ mul_zero R n i ∷ mul_zero R n i ∷ []

    -- a nonzero polynomial has an inverse, where the base's nonzero elements have one
    module _ (inv : A → A) (inverse : (x : A) → (x ≡ R.zero → ⊥) → R.mul x (inv x) ≡ R.one) where
      abbrev four_inverse_at : A → A → A → A → List A
      four_inverse_at a b c d = binomial_mul (ops R) w (adjugate a b c d) (constant_four (ops R) (inv (norm a b c d)))

      times_inverse : (a b c d : A) → (a ∷ b ∷ c ∷ d ∷ [] ≡ constant_four (ops R) R.zero → ⊥)
          → binomial_mul (ops R) w (a ∷ b ∷ c ∷ d ∷ []) (four_inverse_at a b c d) ≡ constant_four (ops R) R.one
      times_inverse a b c d some =
          let n = norm a b c d in
          sym (four_mul_assoc R w (a ∷ b ∷ c ∷ d ∷ []) (adjugate a b c d) (constant_four (ops R) (inv n)) refl refl refl)
          ∙ (ap (λ l. binomial_mul (ops R) w l (constant_four (ops R) (inv n))) (times_adjugate a b c d)
          ∙ (four_scale R w n (constant_four (ops R) (inv n)) refl
          ∙ scaled_inverse n (inv n) (inverse n (λ e. some (norm_nil a b c d e)))))

      pub four_inverse : (p : List A) → length p ≡ 4 → (p ≡ constant_four (ops R) R.zero → ⊥)
          → (q : List A) × (length q ≡ 4) × (binomial_mul (ops R) w p q ≡ constant_four (ops R) R.one)
      four_inverse p hp =
          by_four
          (λ l. (l ≡ constant_four (ops R) R.zero → ⊥) → (q : List A) × (length q ≡ 4) × (binomial_mul (ops R) w l q ≡ constant_four (ops R) R.one))
          (λ a b c d some. (four_inverse_at a b c d, refl, times_inverse a b c d some)) p hp
