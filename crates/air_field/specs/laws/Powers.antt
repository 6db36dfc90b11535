-- Laws of powers, and a step of squaring and multiplying.
use Rattle.std.specs.Prelude.{◌≡◌, ℕ, zero, suc, ◌+◌, ◌/◌, ◌%◌, refl}
use Rattle.std.proofs.Common.{sym, ◌∙◌, ap, ap₂, arith}
use Rattle.air_field.specs.Ring.{CommRing}
use Rattle.air_field.specs.Powers.{power}

module _ {A : Type 0} (R : CommRing A) where
  pub power-square : (a : A) (n : ℕ) → power R (R.mul a a) n ≡ power R a (n + n)
  power-square a zero = refl
  power-square a (suc n) =
      ap (λ x. R.mul x (R.mul a a)) (power-square a n)
      ∙ (sym (R.mul_assoc (power R a (n + n)) a a) ∙ ap (power R a) (twice n))
    where
      twice : (k : ℕ) → suc (suc (k + k)) ≡ suc k + suc k
      twice k = omega arith

  -- halving an exponent
  power-even : (a : A) (n : ℕ) → n % 2 ≡ 0 → power R (R.mul a a) (n / 2) ≡ power R a n
  power-even a n even =
      let halves : n / 2 + n / 2 ≡ n = omega arith in
      power-square a (n / 2) ∙ ap (power R a) halves

  power-odd : (a : A) (n : ℕ) → n % 2 ≡ 1 → R.mul a (power R (R.mul a a) (n / 2)) ≡ power R a n
  power-odd a n odd =
      let halves : suc (n / 2 + n / 2) ≡ n = omega arith in
      R.mul_comm a (power R (R.mul a a) (n / 2))
      ∙ (ap (λ x. R.mul x a) (power-square a (n / 2)) ∙ ap (power R a) halves)

  -- one step of the loop that squares and multiplies, towards a value z
  pub power-even_step : (p s p' s' : A) (n : ℕ) (z : A) → p' ≡ p → s' ≡ R.mul s s → n % 2 ≡ 0 → R.mul p (power R s n) ≡ z → R.mul p' (power R s' (n / 2)) ≡ z
  power-even_step p s p' s' n z hp hs even h =
      ap₂ (λ x y. R.mul x (power R y (n / 2))) hp hs ∙ (ap (R.mul p) (power-even s n even) ∙ h)

  pub power-odd_step : (p s p' s' : A) (n : ℕ) (z : A) → p' ≡ R.mul p s → s' ≡ R.mul s s → n % 2 ≡ 1 → R.mul p (power R s n) ≡ z → R.mul p' (power R s' (n / 2)) ≡ z
  power-odd_step p s p' s' n z hp hs odd h =
      ap₂ (λ x y. R.mul x (power R y (n / 2))) hp hs
      ∙ (R.mul_assoc p s (power R (R.mul s s) (n / 2)) ∙ (ap (R.mul p) (power-odd s n odd) ∙ h))
