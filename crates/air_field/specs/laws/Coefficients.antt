-- The coefficients of sums and products of coefficient lists: a product's are the convolution.
use Rattle.std.proofs.Common.{◌≡◌, ℕ, zero, suc, ◌+◌, ◌-◌, ◌<◌, ◌≤◌, List, [], ◌∷◌, length, refl, sym, ap, ap₂, ◌∙◌, arith, lit≤}
use Rattle.std.proofs.lemmas.List.{get_or-drop}
use Rattle.air_field.specs.Ring.{CommRing}
use Rattle.air_field.specs.RingOps.{ops}
use Rattle.air_field.specs.laws.Ring.{zero_add, zero_mul, mul_zero}
use Rattle.air_field.specs.Polynomial.{sum_to, convolve}
use Rattle.air_field.specs.laws.Sums.{sum_to-nil, sum_to-ext, sum_to-head}
use Rattle.air_field.specs.Coefficients.{poly_add, poly_scale, poly_mul, fold_four, coefficient, IsProductModulo}
use Rattle.air_field.specs.laws.FourCoefficients.{by_four}

module _ {A : Type 0} (R : CommRing A) where
  pub coefficient-add : (p q : List A) (n : ℕ) → coefficient R.zero (poly_add (ops R) p q) n ≡ R.add (coefficient R.zero p n) (coefficient R.zero q n)
  coefficient-add [] q n = sym (zero_add R (coefficient R.zero q n))
  coefficient-add (x ∷ p) [] n = sym (R.add_zero (coefficient R.zero (x ∷ p) n))
  coefficient-add (x ∷ p) (y ∷ q) zero = refl
  coefficient-add (x ∷ p) (y ∷ q) (suc n) = coefficient-add p q n

  pub coefficient-scale : (x : A) (q : List A) (n : ℕ) → coefficient R.zero (poly_scale (ops R) x q) n ≡ R.mul x (coefficient R.zero q n)
  coefficient-scale x [] n = sym (mul_zero R x)
  coefficient-scale x (y ∷ q) zero = refl
  coefficient-scale x (y ∷ q) (suc n) = coefficient-scale x q n

  pub coefficient-mul : (p q : List A) (n : ℕ) → coefficient R.zero (poly_mul (ops R) p q) n ≡ convolve R (coefficient R.zero p) (coefficient R.zero q) n
  coefficient-mul [] q n = sym (sum_to-nil R (λ i. R.mul R.zero (coefficient R.zero q (n - i))) n (λ i b. zero_mul R (coefficient R.zero q (n - i))))
  coefficient-mul (x ∷ p) q zero =
      coefficient-add (poly_scale (ops R) x q) (R.zero ∷ poly_mul (ops R) p q) 0
      ∙ (ap (λ y. R.add y R.zero) (coefficient-scale x q 0) ∙ R.add_zero (R.mul x (coefficient R.zero q 0)))
  coefficient-mul (x ∷ p) q (suc n) =
      coefficient-add (poly_scale (ops R) x q) (R.zero ∷ poly_mul (ops R) p q) (suc n)
      ∙ (ap₂ R.add (coefficient-scale x q (suc n) ∙ ap (λ k. R.mul x (coefficient R.zero q k)) whole) (coefficient-mul p q n ∙ shifted)
      ∙ sym (sum_to-head R (λ i. R.mul (coefficient R.zero (x ∷ p) i) (coefficient R.zero q (suc n - i))) n))
    where
      whole : suc n ≡ suc n - 0
      whole = omega arith

      less : (i : ℕ) → n - i ≡ suc n - suc i
      less i = omega arith

      shifted : convolve R (coefficient R.zero p) (coefficient R.zero q) n ≡ sum_to R (λ i. R.mul (coefficient R.zero p i) (coefficient R.zero q (suc n - suc i))) n
      shifted =
          sum_to-ext R (λ i. R.mul (coefficient R.zero p i) (coefficient R.zero q (n - i))) (λ i. R.mul (coefficient R.zero p i) (coefficient R.zero q (suc n - suc i))) n
          (λ i b. ap (λ k. R.mul (coefficient R.zero p i) (coefficient R.zero q k)) (less i))

  -- to each of the four coefficients is added w times the coefficient four further on
  pub coefficient-fold_four : (w a b c d : A) (p : List A) (n : ℕ)
      → coefficient R.zero (fold_four (ops R) w (a ∷ b ∷ c ∷ d ∷ p)) n ≡ R.add (coefficient R.zero (a ∷ b ∷ c ∷ d ∷ []) n) (R.mul w (coefficient R.zero p n))
  coefficient-fold_four w a b c d p n =
      coefficient-add (a ∷ b ∷ c ∷ d ∷ []) (poly_scale (ops R) w p) n
      ∙ ap (R.add (coefficient R.zero (a ∷ b ∷ c ∷ d ∷ []) n)) (coefficient-scale w p n)

module _ {A : Type 0} (R : CommRing A) (w : A) where
  first_four : (a b c d : A) (p : List A) (k : ℕ) → k < 4 → coefficient R.zero (a ∷ b ∷ c ∷ d ∷ []) k ≡ coefficient R.zero (a ∷ b ∷ c ∷ d ∷ p) k
  first_four a b c d p zero lt = refl
  first_four a b c d p (suc zero) lt = refl
  first_four a b c d p (suc (suc zero)) lt = refl
  first_four a b c d p (suc (suc (suc zero))) lt = refl
  first_four a b c d p (suc (suc (suc (suc k)))) lt = absurd (omega arith)

  fold-coefficient : (l : List A) (k : ℕ) → 4 ≤ length l → k < 4 → coefficient R.zero (fold_four (ops R) w l) k ≡ R.add (coefficient R.zero l k) (R.mul w (coefficient R.zero l (4 + k)))
  fold-coefficient [] k h lt = absurd (omega arith)
  fold-coefficient (a ∷ []) k h lt = absurd (omega arith)
  fold-coefficient (a ∷ b ∷ []) k h lt = absurd (omega arith)
  fold-coefficient (a ∷ b ∷ c ∷ []) k h lt = absurd (omega arith)
  fold-coefficient (a ∷ b ∷ c ∷ d ∷ p) k h lt =
      coefficient-fold_four R w a b c d p k
      ∙ ap₂ (λ x y. R.add x (R.mul w y)) (first_four a b c d p k lt) (get_or-drop 4 (a ∷ b ∷ c ∷ d ∷ p) k R.zero)

  pub product-modulo : (p q : List A) → length p ≡ 4 → length q ≡ 4 → IsProductModulo R w p q (fold_four (ops R) w (poly_mul (ops R) p q))
  product-modulo p q hp hq k lt =
      fold-coefficient (poly_mul (ops R) p q) k (wide_enough p q hp hq) lt
      ∙ ap₂ (λ x y. R.add x (R.mul w y)) (coefficient-mul R p q k) (coefficient-mul R p q (4 + k))
    where
      wide_enough : (s t : List A) → length s ≡ 4 → length t ≡ 4 → 4 ≤ length (poly_mul (ops R) s t)
      wide_enough s t hs ht =
          by_four (λ l. 4 ≤ length (poly_mul (ops R) l t)) (λ a b c d.
          by_four (λ m. 4 ≤ length (poly_mul (ops R) (a ∷ b ∷ c ∷ d ∷ []) m)) (λ e f g h. lit≤ tt) t ht) s hs
