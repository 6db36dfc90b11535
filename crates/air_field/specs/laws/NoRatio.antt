-- An element whose power by (p - 1) / 2 is -1, p being prime, is no square, nor the ratio of two squares.
use Rattle.std.specs.Prelude.{◌≡◌, ℕ, zero, suc, ◌+◌}
use Rattle.std.proofs.Common.{sym, ◌∙◌, ap, inl, inr}
use Rattle.air_field.specs.Ring.{CommRing}
use Rattle.air_field.specs.Domain.{IsDomain, IsNoRatio}
use Rattle.air_field.specs.Powers.{power}
use Rattle.air_field.specs.laws.Ring.{mul_zero, one_mul, neg_neg, neg_zero, add_mul, ring_rules}
use Rattle.air_field.specs.laws.Powers.{power-square}

module _ {A : Type 0} (R : CommRing A) where
  mul_pairs : (a b c d : A) → R.mul (R.mul a b) (R.mul c d) ≡ R.mul (R.mul a c) (R.mul b d)
  mul_pairs a b c d = simp ring_rules

  power-mul : (a b : A) (n : ℕ) → power R (R.mul a b) n ≡ R.mul (power R a n) (power R b n)
  power-mul a b zero = sym (R.mul_one R.one)
  power-mul a b (suc n) = ap (λ x. R.mul x (R.mul a b)) (power-mul a b n) ∙ mul_pairs (power R a n) (power R b n) a b

  two_of : (x : A) → x ≡ R.neg x → R.mul (R.add R.one R.one) x ≡ R.zero
  two_of x h = add_mul R R.one R.one x ∙ (ap (λ y. R.add y (R.mul R.one x)) (one_mul R x ∙ h) ∙ (ap (R.add (R.neg x)) (one_mul R x) ∙ (R.add_comm (R.neg x) x ∙ R.add_neg x)))

  turn : (u x y : A) → R.mul (R.mul (R.mul (R.neg R.one) u) x) y ≡ R.neg (R.mul x (R.mul u y))
  turn u x y = simp ring_rules

  module _ (domain : IsDomain R) (odd : R.add R.one R.one ≡ R.zero → ⊥) (w : A) (q : ℕ) (last : power R w q ≡ R.neg R.one) where
    some_if : (n : ℕ) → power R w n ≡ R.neg R.one → w ≡ R.zero → ⊥
    some_if zero h e = odd (ap (R.add R.one) h ∙ R.add_neg R.one)
    some_if (suc n) h e =
        let one_nil : R.one ≡ R.zero = sym (neg_neg R R.one) ∙ (ap R.neg (sym h ∙ (ap (R.mul (power R w n)) e ∙ mul_zero R (power R w n))) ∙ neg_zero R) in
        odd (ap (R.add R.one) one_nil ∙ (R.add_zero R.one ∙ one_nil))

    module _ (fermat : (x : A) → power R x (suc (q + q)) ≡ x) where
      by_square : (x : A) → R.mul (power R (R.mul x x) q) x ≡ x
      by_square x = ap (λ z. R.mul z x) (power-square R x q) ∙ fermat x

      -- with x = (x^2)^q x and x^2 = w y^2
      turned : (x y : A) → R.mul x x ≡ R.mul w (R.mul y y) → R.mul (R.mul (R.neg R.one) (power R (R.mul y y) q)) x ≡ x
      turned x y h =
          ap (λ z. R.mul (R.mul z (power R (R.mul y y) q)) x) (sym last)
          ∙ (ap (λ z. R.mul z x) (sym (power-mul w (R.mul y y) q) ∙ ap (λ z. power R z q) (sym h))
          ∙ by_square x)

      negated : (x y : A) → R.mul x x ≡ R.mul w (R.mul y y) → R.mul x y ≡ R.neg (R.mul x y)
      negated x y h =
          ap (λ z. R.mul z y) (sym (turned x y h))
          ∙ (turn (power R (R.mul y y) q) x y
          ∙ ap (λ z. R.neg (R.mul x z)) (by_square y))

      of_square : (y : A) → R.mul y y ≡ R.zero → y ≡ R.zero
      of_square y h = elim (domain y y h) [ inl e ↦ e | inr e ↦ e ]

      pub no_ratio : IsNoRatio R w
      no_ratio x y h =
          elim (domain (R.add R.one R.one) (R.mul x y) (two_of (R.mul x y) (negated x y h))) [
            | inl two ↦ absurd (odd two)
            | inr none ↦ elim (domain x y none) [
              | inl first ↦ elim (domain w (R.mul y y) (sym h ∙ (ap (R.mul x) first ∙ mul_zero R x))) [
                | inl e ↦ absurd (some_if q last e)
                | inr e ↦ of_square y e
              ]
              | inr second ↦ second
            ]
          ]
