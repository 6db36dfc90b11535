-- Classes of whole numbers: how they add, which are zero, and when two are the same.
use Rattle.std.specs.Prelude.{◌≡◌, ℕ, zero, suc, refl, ◌+◌, ◌-◌, ◌*◌, ◌%◌, ◌<◌, ◌≤◌, ◌↔◌, ◌⊎◌, eqb, Bool, true, false}
use Rattle.std.specs.Bool.{if◌then◌else◌}
use Rattle.std.specs.Int.{◌∣◌}
use mir.Val.{bool_byte}
use Rattle.std.proofs.Common.{sym, ◌∙◌, ap, inl, inr, arith, mod-eq_of_lt, eqb-true, eq-eqb}
use Rattle.std.proofs.Math.Nat.{mod-add-mod, add-mod-mod, zero-mod, dvd_of_mod-eq-zero, mod-eq-zero_of_dvd}
use Rattle.air_field.specs.Prime.{IsPrime}
use Rattle.air_field.specs.Ring.{image}
use Rattle.air_field.specs.Modular.{Modular, modular_add, modular_mul, modular_neg, modular_ring}

module _ {A : Type 0} {p : ℕ} (m : Modular A p) where
  -- a number below p is its class's value
  pub same_small : (a : A) (n : ℕ) → n < p → m.value a ≡ n → a ≡ m.class n
  same_small a n low e = m.same a (m.class n) (e ∙ sym (m.value_class n ∙ mod-eq_of_lt low))

  pub same_class : (a : A) (n : ℕ) → m.value a ≡ n % p → a ≡ m.class n
  same_class a n e = m.same a (m.class n) (e ∙ sym (m.value_class n))

  pub class_of : (a : A) → m.class (m.value a) ≡ a
  class_of a = m.same _ _ (m.value_class (m.value a) ∙ mod-eq_of_lt (m.bound a))

  -- the class of a sum is that of the classes
  pub class-add : (k n : ℕ) → m.class (k + n) ≡ modular_add m (m.class k) (m.class n)
  class-add k n =
      m.same _ _ (m.value_class (k + n)
      ∙ sym (m.value_class _
      ∙ (ap (λ s. (s + m.value (m.class n)) % p) (m.value_class k)
      ∙ (ap (λ s. (k % p + s) % p) (m.value_class n)
      ∙ (mod-add-mod k p (n % p) ∙ add-mod-mod k n p)))))

  -- the image of n is its class
  pub image-class : (n : ℕ) → image (modular_ring m) n ≡ m.class n
  unfolding image
  image-class zero = refl
  image-class (suc n) = ap (λ x. modular_add m x (m.class 1)) (image-class n) ∙ (sym (class-add n 1) ∙ ap m.class (omega arith))

  divides_value : (a : A) → p ∣ m.value a → a ≡ m.class 0
  divides_value a d = m.same a (m.class 0) (sym (mod-eq_of_lt (m.bound a)) ∙ (mod-eq-zero_of_dvd p d ∙ sym (m.value_class 0 ∙ zero-mod p)))

  divided : (n : ℕ) → m.class n ≡ m.class 0 → p ∣ n
  divided n e = dvd_of_mod-eq-zero p (sym (m.value_class n) ∙ (ap m.value e ∙ (m.value_class 0 ∙ zero-mod p)))

  pub image-zero : (n : ℕ) → (image (modular_ring m) n ≡ m.class 0) ↔ (p ∣ n)
  image-zero n = (
    (λ h. divided n (sym (image-class n) ∙ h)),
    (λ d. image-class n ∙ m.same _ _ (m.value_class n ∙ (mod-eq-zero_of_dvd p d ∙ sym (m.value_class 0 ∙ zero-mod p)))),
  )

  pub domain : IsPrime p → (a b : A) → modular_mul m a b ≡ m.class 0 → (a ≡ m.class 0) ⊎ (b ≡ m.class 0)
  domain prime a b h =
      elim (prime.divides (m.value a) (m.value b) (divided (m.value a * m.value b) h)) [
        | inl d ↦ inl (divides_value a d)
        | inr d ↦ inr (divides_value b d)
      ]

  -- `==` decides equality
  pub equal_is : (a b : A) → (eqb (m.value a) (m.value b) ≡ true) ↔ (a ≡ b)
  equal_is a b = ((λ h. m.same a b (eqb-true (m.value a) (m.value b) h)), (λ e. eq-eqb (m.value a) (m.value b) (ap m.value e)))

  pub two_is_sum : m.class 2 ≡ modular_add m (m.class 1) (m.class 1)
  two_is_sum = class-add 1 1

  pub last_is_negative : IsPrime p → m.class (p - 1) ≡ modular_neg m (m.class 1)
  last_is_negative prime = ap (λ n. m.class (p - n)) (sym (m.value_class 1 ∙ mod-eq_of_lt prime.least))

  -- the class of a bit
  pub bit : IsPrime p → (b : Bool) (a : A) → m.value a ≡ bool_byte b → a ≡ (if b then m.class 1 else m.class 0)
  bit prime false a h = same_small a 0 (let least : 2 ≤ p = prime.least in omega (arith, least)) h
  bit prime true a h = same_small a 1 prime.least h
