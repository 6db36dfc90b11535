-- The value of packed bits, and of packed bits of numbers.
use Rattle.std.proofs.Common.{◌≡◌, ◌∙◌, zero, suc, List, [], ◌∷◌, map, refl, sym, ap, ap₂}
use Rattle.air_field.specs.Ring.{CommRing, AlgebraOver, AlgebraOverLaws, image}
use Rattle.air_field.specs.laws.RingSolver.{var, nought, unit, plus, times, ring}
use Rattle.air_field.specs.laws.Images.{image-zero, image-suc}
use Rattle.air_field.specs.Term.{Leaf, Term}
use Rattle.air_field.specs.Value.{value}
use Rattle.air_gadgets.specs.Bits.{binary_sum}
use Rattle.air_gadgets.specs.Packing.{packed_from, packed_term}
use Rattle.air_gadgets.specs.PowerSums.{PacksValuesIn, PacksNumbers, EmbedsImages}
use Rattle.air_gadgets.specs.laws.Bits.{packed-digits}
use Rattle.air_gadgets.specs.laws.PowerSums.{packs_by_powers}

module _ {A : Type 0} (R : CommRing A) where
  last_bit : (x : A) → x ≡ R.add x (R.mul (R.add R.one R.one) R.zero)
  last_bit x = ring R (x ∷ []) (var 0) (plus (var 0) (times (plus unit unit) nought)) refl

  next_bit : (x y z : A) → y ≡ z → R.add (R.add y y) x ≡ R.add x (R.mul (R.add R.one R.one) z)
  next_bit x y z e = ring R (x ∷ y ∷ []) (plus (plus (var 1) (var 1)) (var 0)) (plus (var 0) (times (plus unit unit) (var 1))) refl ∙ ap (λ w. R.add x (R.mul (R.add R.one R.one) w)) e

module _ {F E : Type 0} (a : AlgebraOver F E) (none : F) (is : a.embed none ≡ a.ring.zero) where
  value-packed_from : (s : Leaf → E) (t : Term F) (ts : List (Term F)) → value a s (packed_from t ts) ≡ binary_sum a.ring (map (value a s) (t ∷ ts))
  value-packed_from s t [] = last_bit a.ring (value a s t)
  value-packed_from s t (u ∷ us) = next_bit a.ring (value a s t) (value a s (packed_from u us)) (binary_sum a.ring (map (value a s) (u ∷ us))) (value-packed_from s u us)

  -- the value of packed bits is the bits' values, packed
  pub value-packed_term : (s : Leaf → E) (ts : List (Term F)) → value a s (packed_term none ts) ≡ binary_sum a.ring (map (value a s) ts)
  value-packed_term s [] = is
  value-packed_term s (t ∷ ts) = value-packed_from s t ts

  pub packs_values_in : PacksValuesIn a none
  packs_values_in s ts = value-packed_term s ts ∙ packs_by_powers a.ring (map (value a s) ts)

  pub packs_numbers : PacksNumbers a none
  packs_numbers s ts n v below bits = value-packed_term s ts ∙ (ap (binary_sum a.ring) bits ∙ packed-digits a.ring n v below)

pub embeds_images : {F E : Type 0} (R : CommRing F) (a : AlgebraOver F E) → AlgebraOverLaws R a → EmbedsImages R a
embeds_images R a laws zero = ap a.embed (image-zero R) ∙ (laws.embed_zero ∙ sym (image-zero a.ring))
embeds_images R a laws (suc n) =
    ap a.embed (image-suc R n)
    ∙ (laws.embed_add (image R n) R.one
    ∙ (ap₂ a.ring.add (embeds_images R a laws n) laws.embed_one ∙ sym (image-suc a.ring n)))
