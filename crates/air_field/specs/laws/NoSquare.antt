-- Where w's power by (p - 1) / 4 is a square root of -1 modulo a prime p, w is no square, nor the ratio of two.
use Rattle.std.specs.Prelude.{◌≡◌, ℕ, zero, suc, refl, ◌+◌, ◌*◌, ◌/◌, ◌%◌, ◌^◌, ◌<◌, ◌≤◌}
use Rattle.std.proofs.Common.{sym, ◌∙◌, ap, ap₂, arith}
use Rattle.std.proofs.lemmas.Nat.{mul-mod_first, mul-mod_second, pow-add, pow-mod}
use Rattle.std.proofs.Math.Nat.{mod-mod, pow-suc, pow-zero, zero-mod}
use Rattle.air_field.specs.Domain.{IsNoRatio}
use Rattle.air_field.specs.NoSquare.{IsNoSquare, power_modulo}
use Rattle.air_field.specs.Modular.{Modular, modular_add, modular_mul, modular_ring}
use Rattle.air_field.specs.Powers.{power}
use Rattle.air_field.specs.Prime.{IsPrime}
use Rattle.air_field.specs.laws.Fermat.{fermat}
use Rattle.air_field.specs.laws.Modular.{class_of, class-add, two_is_sum, domain}
use Rattle.air_field.specs.laws.NoRatio.{no_ratio}
use Rattle.air_field.specs.laws.Order.{SameModulo, same_add, same_mul, same_if, two_is_not_zero, pow_times}
use Rattle.air_field.specs.laws.Ring.{neg_unique}

power_modulo-is : (digits b e p : ℕ) → SameModulo p (power_modulo digits b e p) (b ^ e)
power_modulo-is zero b e p = refl
power_modulo-is (suc digits) b e p =
    let split : e % 16 + e / 16 * 16 ≡ e = omega arith in
    mod-mod (b ^ (e % 16) * power_modulo digits (b ^ 16 % p) (e / 16) p) p
    ∙ (same_mul p (b ^ (e % 16)) (b ^ (e % 16)) _ ((b ^ 16) ^ (e / 16)) refl (power_modulo-is digits (b ^ 16 % p) (e / 16) p ∙ pow-mod (b ^ 16) (e / 16) p)
    ∙ same_if p _ _ (ap (λ x. b ^ (e % 16) * x) (pow_times b 16 (e / 16)) ∙ (sym (pow-add b (e % 16) (e / 16 * 16)) ∙ ap (λ x. b ^ x) split)))

module _ {A : Type 0} {p : ℕ} (m : Modular A p) where
  same_classes : (a b : ℕ) → SameModulo p a b → m.class a ≡ m.class b
  same_classes a b h = m.same _ _ (m.value_class a ∙ (h ∙ sym (m.value_class b)))

  class-mul : (a b : ℕ) → m.class (a * b) ≡ modular_mul m (m.class a) (m.class b)
  class-mul a b =
      m.same _ _ (m.value_class (a * b)
      ∙ sym (m.value_class _
      ∙ (ap₂ (λ x y. (x * y) % p) (m.value_class a) (m.value_class b)
      ∙ (mul-mod_first a (b % p) p ∙ mul-mod_second a b p))))

  class-power : (a n : ℕ) → m.class (a ^ n) ≡ power (modular_ring m) (m.class a) n
  class-power a zero = ap m.class (pow-zero a)
  class-power a (suc n) = ap m.class (pow-suc a n) ∙ (class-mul (a ^ n) a ∙ ap (λ x. modular_mul m x (m.class a)) (class-power a n))

  module _ (prime : IsPrime p) where
    pub power_is_own : (x : A) → power (modular_ring m) x p ≡ x
    power_is_own x =
        ap (λ y. power (modular_ring m) y p) (sym (class_of m x))
        ∙ (sym (class-power (m.value x) p)
        ∙ (same_classes (m.value x ^ p) (m.value x) (fermat p (m.value x) prime)
        ∙ class_of m x))

    is_last : (n : ℕ) → SameModulo p (n + 1) 0 → m.class n ≡ (modular_ring m).neg (m.class 1)
    is_last n h =
        neg_unique (modular_ring m) (m.class 1) (m.class n)
        ((modular_ring m).add_comm (m.class 1) (m.class n) ∙ (sym (class-add m n 1) ∙ same_classes (n + 1) 0 h))

    odd_if : 2 < p → modular_add m (m.class 1) (m.class 1) ≡ m.class 0 → ⊥
    odd_if big h = two_is_not_zero p big (sym (m.value_class 2) ∙ (ap m.value (two_is_sum m ∙ h) ∙ m.value_class 0))

    module _ (w : ℕ) (h : IsNoSquare p w) where
      last : SameModulo p (w ^ (p / 4) * w ^ (p / 4) + 1) 0
      last =
          let own : SameModulo p (power_modulo 16 w (p / 4) p) (w ^ (p / 4)) = power_modulo-is 16 w (p / 4) p in
          sym (same_add p _ _ 1 1 (same_mul p _ _ _ _ own own) refl) ∙ (h.last ∙ sym (zero-mod p))

      half : power (modular_ring m) (m.class w) (p / 4 + p / 4) ≡ (modular_ring m).neg (m.class 1)
      half = sym (class-power w (p / 4 + p / 4)) ∙ (ap m.class (pow-add w (p / 4) (p / 4)) ∙ is_last (w ^ (p / 4) * w ^ (p / 4)) last)

      great : 2 < p
      great = let rest : p % 4 ≡ 1 = h.rest in let least : 2 ≤ p = prime.least in omega (arith, rest, least)

      halves : suc ((p / 4 + p / 4) + (p / 4 + p / 4)) ≡ p
      halves = let rest : p % 4 ≡ 1 = h.rest in omega (arith, rest)

      pub ratio_is_no_square : IsNoRatio (modular_ring m) (m.class w)
      ratio_is_no_square =
          no_ratio (modular_ring m) (domain m prime) (odd_if great) (m.class w) (p / 4 + p / 4) half
          (λ x. ap (power (modular_ring m) x) halves ∙ power_is_own x)

      -- a square root of -1
      abbrev pub root : A
      root = m.class (w ^ (p / 4))

      pub root-square : modular_mul m root root ≡ (modular_ring m).neg (m.class 1)
      root-square = sym (class-mul (w ^ (p / 4)) (w ^ (p / 4))) ∙ is_last (w ^ (p / 4) * w ^ (p / 4)) last
