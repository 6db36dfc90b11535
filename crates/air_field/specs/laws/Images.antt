-- The images of the whole numbers in a commutative ring.
use Rattle.std.specs.Prelude.{◌≡◌, ℕ, zero, suc, refl, ◌+◌, ◌-◌, ◌*◌, ◌≤◌, ◌<◌, ◌↔◌}
use Rattle.std.specs.Int.{◌∣◌}
use Rattle.std.proofs.Common.{sym, ◌∙◌, ap, inl, inr, arith, add-suc, add-zero}
use Rattle.std.proofs.lemmas.Bool.{cases_lt}
use Rattle.std.proofs.Math.Nat.{le_of_dvd, mul-suc, mul-zero, eq-zero-or-pos, add-sub_of_le}
use Rattle.air_field.specs.Ring.{CommRing, image}
use Rattle.air_field.specs.laws.Ring.{add_cancel, zero_add, mul_zero, ring_rules}

pub image-zero : {A : Type 0} (R : CommRing A) → image R 0 ≡ R.zero
unfolding image
image-zero R = refl

pub image-suc : {A : Type 0} (R : CommRing A) (n : ℕ) → image R (suc n) ≡ R.add (image R n) R.one
unfolding image
image-suc R n = refl

module _ {A : Type 0} (R : CommRing A) where
  pub image-one : image R 1 ≡ R.one
  image-one = image-suc R 0 ∙ (ap (λ x. R.add x R.one) (image-zero R) ∙ zero_add R R.one)

  pub image-two : image R 2 ≡ R.add R.one R.one
  image-two = image-suc R 1 ∙ ap (λ x. R.add x R.one) image-one

  pub image-add : (m n : ℕ) → image R (m + n) ≡ R.add (image R m) (image R n)
  image-add m zero = ap (image R) (add-zero m) ∙ (sym (R.add_zero (image R m)) ∙ ap (R.add (image R m)) (sym (image-zero R)))
  image-add m (suc n) =
      ap (image R) (add-suc m n)
      ∙ (image-suc R (m + n)
      ∙ (ap (λ x. R.add x R.one) (image-add m n)
      ∙ (R.add_assoc (image R m) (image R n) R.one
      ∙ ap (R.add (image R m)) (sym (image-suc R n)))))

  mul_step : (x y : A) → R.add (R.mul x y) x ≡ R.mul x (R.add y R.one)
  mul_step x y = simp ring_rules

  pub image-mul : (m n : ℕ) → image R (m * n) ≡ R.mul (image R m) (image R n)
  image-mul m zero = ap (image R) (mul-zero m) ∙ (image-zero R ∙ (sym (mul_zero R (image R m)) ∙ ap (R.mul (image R m)) (sym (image-zero R))))
  image-mul m (suc n) =
      ap (image R) (mul-suc m n)
      ∙ (image-add (m * n) m
      ∙ (ap (λ x. R.add x (image R m)) (image-mul m n)
      ∙ (mul_step (image R m) (image R n)
      ∙ ap (R.mul (image R m)) (sym (image-suc R n)))))

-- the image of n is zero exactly if p divides n
abbrev pub HasCharacteristic : {A : Type 0} → CommRing A → ℕ → Type 0
HasCharacteristic R p = (n : ℕ) → (image R n ≡ R.zero) ↔ (p ∣ n)

beyond : (p n : ℕ) → n < p → p ≤ n → ⊥
beyond p n h k = omega arith

module _ {A : Type 0} (R : CommRing A) (p : ℕ) (has : HasCharacteristic R p) where
  pub zero_of_image : (n : ℕ) → n < p → image R n ≡ R.zero → n ≡ 0
  zero_of_image n low h =
      elim (eq-zero-or-pos n) [ inl e ↦ e | inr pos ↦ absurd (beyond p n low (le_of_dvd pos ((has n).0 h))) ]

  same_below : (m n : ℕ) → n < p → m ≤ n → image R m ≡ image R n → m ≡ n
  same_below m n low le e =
      let rest : n - m ≡ 0 =
      zero_of_image (n - m) (omega arith)
      (add_cancel R (image R m) (image R (n - m)) R.zero
      (sym (image-add R m (n - m)) ∙ (ap (image R) (add-sub_of_le le) ∙ (sym e ∙ sym (R.add_zero (image R m)))))) in
      omega arith

  -- two whole numbers below the characteristic are equal if their images are
  pub same_of_image : (m n : ℕ) → m < p → n < p → image R m ≡ image R n → m ≡ n
  same_of_image m n hm hn e =
      elim (cases_lt m n) [ inl l ↦ same_below m n hn (omega arith) e | inr l ↦ sym (same_below n m hm l (sym e)) ]
