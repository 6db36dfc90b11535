-- The numbers in columns of bits.
use Rattle.std.specs.Prelude.{◌≡◌, ℕ, zero, suc, ◌+◌, ◌*◌, ◌^◌, ◌<◌, [], ◌∷◌, refl}
use Rattle.std.proofs.Common.{sym, ◌∙◌, ap, ap₂, inl, inr, arith}
use Rattle.std.proofs.Math.Nat.{pow-suc}
use Rattle.air_field.specs.Algebra.{bool_check_term}
use Rattle.air_field.specs.Domain.{IsDomain}
use Rattle.air_field.specs.Ring.{CommRing, image, self_algebra, minus}
use Rattle.air_field.specs.Term.{Leaf, Term, leaf_term, main, sub_term}
use Rattle.air_field.specs.Value.{value}
use Rattle.air_field.specs.laws.Images.{image-add, image-mul, image-zero, image-one, image-two}
use Rattle.air_field.specs.laws.Ring.{zero_add}
use Rattle.air_field.specs.laws.RingSolver.{var, unit, plus, times, less, ring}
use Rattle.air_builder.specs.Assertion.{Base}
use Rattle.air_builder.specs.Vanishing.{AllVanish}
use Rattle.air_gadgets.specs.Packing.{packed_from}
use Rattle.air_gadgets.specs.BitTerms.{terms_from, columns_from, bits_asserts, has_bits, packed_bits}
use Rattle.air_gadgets.specs.WordTerms.{word_at, word_bits}
use Rattle.air_gadgets.specs.Numbers.{IsNumberBelow, IsWord}
use Rattle.air_gadgets.specs.laws.Vanishing.{both_vanish, one_vanishes}

module _ {F : Type 0} (R : CommRing F) (domain : IsDomain R) (s : Leaf → F) where
  -- x (x - 1) is zero only if x is 0 or 1
  bit_of : (x : F) → R.mul x (minus R x R.one) ≡ R.zero → (n : ℕ) × (n < 2) × (x ≡ image R n)
  bit_of x h =
      elim (domain x (minus R x R.one) h) [
        | inl e ↦ (0, omega arith, e ∙ sym (image-zero R))
        | inr e ↦ (1, omega arith, (ring R (x ∷ R.one ∷ []) (var 0) (plus (less (var 0) (var 1)) (var 1)) refl ∙ (ap (λ z. R.add z R.one) e ∙ zero_add R R.one)) ∙ sym (image-one R))
      ]

  bit_below : (t : Term F) → value (self_algebra R) s (bool_check_term R.one t) ≡ R.zero → IsNumberBelow R s 2 t
  bit_below t h = let b = bit_of (value (self_algebra R) s t) h in record { number = b.0; below = b.1; is = b.2 }

  -- m + 1 packed bits are the image of a number below 2^(m + 1)
  packed_below : (at : ℕ → Term F) (i m : ℕ) → ((k : ℕ) → k < i + suc m → IsNumberBelow R s 2 (at k)) → IsNumberBelow R s (2 ^ suc m) (packed_from (at i) (terms_from at (i + 1) m))
  packed_below at i zero bits = bits i (omega arith)
  packed_below at i (suc m) bits =
      let bit = bits i (omega arith) in
      let above = packed_below at (i + 1) m (λ k lt. bits k (omega (arith, lt))) in
      record {
        number = 2 * above.number + bit.number;
        below = omega (arith, above.below, bit.below, pow-suc 2 (suc m));
        is = ap₂ (λ u v. R.add (R.add u u) v) above.is bit.is
            ∙ (ring R (image R above.number ∷ image R bit.number ∷ []) (plus (plus (var 0) (var 0)) (var 1)) (plus (times (plus unit unit) (var 0)) (var 1)) refl
            ∙ (ap (λ u. R.add (R.mul u (image R above.number)) (image R bit.number)) (sym (image-two R))
            ∙ (ap (λ u. R.add u (image R bit.number)) (sym (image-mul R 2 above.number)) ∙ sym (image-add R (2 * above.number) bit.number))));
      }

  -- where the constraints of `HasBits` vanish for m + 1 columns, the term is a number below 2^(m + 1)
  pub bits_below : (t : Term F) (first m : ℕ) → AllVanish R s (has_bits R t first (suc m) (λ u. u)) → IsNumberBelow R s (2 ^ suc m) t
  unfolding packed_bits bits_asserts
  bits_below t first m h =
      let parts = both_vanish R s (bits_asserts R first (suc m) (λ u. u)) (Base (sub_term t (packed_bits R first (suc m))) ∷ []) h in
      let bits : (k : ℕ) → k < suc m → IsNumberBelow R s 2 (columns_from first k) =
      λ k lt. bit_below (columns_from first k) (one_vanishes R s (λ i. Base (bool_check_term R.one (columns_from first i)) ∷ []) (suc m) k lt parts.0).0 in
      let packed = packed_below (columns_from first) 0 m (λ k lt. bits k (omega (arith, lt))) in
      let x = value (self_algebra R) s t in
      let y = value (self_algebra R) s (packed_bits R first (suc m)) in
      record {
        number = packed.number;
        below = packed.below;
        is = (ring R (x ∷ y ∷ []) (var 0) (plus (less (var 0) (var 1)) (var 1)) refl ∙ (ap (λ z. R.add z y) parts.1.0 ∙ zero_add R y)) ∙ packed.is;
      }

  -- where the constraints of `WordOfBits` vanish, both limbs have 16 bits
  pub bits_of_word : (first : ℕ) → AllVanish R s (word_bits R first (λ t. t)) → IsWord R s (word_at first)
  unfolding word_bits
  bits_of_word first h =
      let low = leaf_term (main 0 first) in
      let high = leaf_term (main 0 (first + 17)) in
      let both = both_vanish R s (has_bits R low (first + 1) 16 (λ t. t)) (has_bits R high (first + 18) 16 (λ t. t)) h in
      (bits_below low (first + 1) 15 both.0, bits_below high (first + 18) 15 both.1)
