-- The values of bits: the test x (x - 1), and the xor x + y - 2xy.
use Rattle.std.specs.Prelude.{◌↔◌, ◌⊎◌}
use Rattle.std.specs.Bool.{if◌then◌else◌}
use Rattle.std.proofs.Common.{◌≡◌, ◌∙◌, [], Bool, true, false, not, inl, inr, refl, sym, ap, ap₂}
use Rattle.air_field.specs.Ring.{CommRing, minus}
use Rattle.air_field.specs.laws.Ring.{zero_mul, one_mul}
use Rattle.air_field.specs.laws.RingSolver.{ring, plus, less, times, unit, nought}

never : false ≡ true → ⊥
never e = cc

module _ {A : Type 0} (R : CommRing A) where
  abbrev pub IsBit : A → Type 0
  IsBit x = (x ≡ R.zero) ⊎ (x ≡ R.one)

  pub check_of_bit : (x : A) → IsBit x → R.zero ≡ R.mul x (minus R x R.one)
  check_of_bit x (inl e) = sym (ap (λ z. R.mul z (minus R z R.one)) e ∙ zero_mul R _)
  check_of_bit x (inr e) = sym (ap (λ z. R.mul z (minus R z R.one)) e ∙ one_mul R _ ∙ R.add_neg R.one)

  abbrev xor_value : A → A → A
  xor_value x y = minus R (R.add x y) (R.add (R.mul x y) (R.mul x y))

  neither : xor_value R.zero R.zero ≡ R.zero
  neither = ring R [] (less (plus nought nought) (plus (times nought nought) (times nought nought))) nought refl

  second : xor_value R.zero R.one ≡ R.one
  second = ring R [] (less (plus nought unit) (plus (times nought unit) (times nought unit))) unit refl

  first : xor_value R.one R.zero ≡ R.one
  first = ring R [] (less (plus unit nought) (plus (times unit nought) (times unit nought))) unit refl

  both : xor_value R.one R.one ≡ R.zero
  both = ring R [] (less (plus unit unit) (plus (times unit unit) (times unit unit))) nought refl

  -- the xor of two bits is one exactly if they differ
  pub xor_of_bits : (x y : A) → IsBit x → IsBit y → (same : Bool) → (same ≡ true) ↔ (x ≡ y)
      → (if not same then R.one else R.zero) ≡ xor_value x y
  xor_of_bits x y (inl p) (inl q) true h = sym (ap₂ xor_value p q ∙ neither)
  xor_of_bits x y (inl p) (inl q) false h = absurd (never (h.1 (p ∙ sym q)))
  xor_of_bits x y (inl p) (inr q) true h = sym p ∙ h.0 refl ∙ q ∙ sym (ap₂ xor_value p q ∙ second)
  xor_of_bits x y (inl p) (inr q) false h = sym (ap₂ xor_value p q ∙ second)
  xor_of_bits x y (inr p) (inl q) true h = sym q ∙ sym (h.0 refl) ∙ p ∙ sym (ap₂ xor_value p q ∙ first)
  xor_of_bits x y (inr p) (inl q) false h = sym (ap₂ xor_value p q ∙ first)
  xor_of_bits x y (inr p) (inr q) true h = sym (ap₂ xor_value p q ∙ both)
  xor_of_bits x y (inr p) (inr q) false h = absurd (never (h.1 (p ∙ sym q)))
