-- When the asserted terms are zero.
use Rattle.std.specs.Prelude.{◌≡◌, ℕ, ◌*◌, ◌^◌, ◌<◌, ◌↔◌, List, [], ◌∷◌, map, ⊤}
use Rattle.air_field.specs.Ring.{CommRing, image, self_algebra}
use Rattle.air_field.specs.Term.{Leaf, Term}
use Rattle.air_field.specs.Value.{value}
use Rattle.air_field.specs.Domain.{IsDomain}
use Rattle.air_gadgets.specs.Bits.{AreBits}
use Rattle.air_builder.specs.Vanishing.{AllVanish}
use Rattle.air_gadgets.specs.Words.{Limbs, AreLimbs, word, word_sum, word_sum_3, xor_bits, rotated_left, low_half, high_half}
use Rattle.air_gadgets.specs.Gadgets.{add2_asserts, add3_asserts, xor_asserts}

-- the terms of the limbs have the images of two numbers as their values
abbrev pub LimbsAre : {F : Type 0} → CommRing F → (Leaf → F) → Limbs (Term F) → Limbs ℕ → Type 0
LimbsAre R s t n =
    (value (self_algebra R) s t.low ≡ image R n.low)
    × (value (self_algebra R) s t.high ≡ image R n.high)

-- over limbs of 16 bits both terms of `add2` are zero exactly if a is b + c modulo 2^32
abbrev pub Add2IsExact : {F : Type 0} → CommRing F → ℕ → Type 0
Add2IsExact {F} R characteristic =
    (t u v : Limbs (Term F)) (s : Leaf → F) (a b c : Limbs ℕ) → IsDomain R → 2 ^ 17 < characteristic
    → AreLimbs a → AreLimbs b → AreLimbs c → LimbsAre R s t a → LimbsAre R s u b → LimbsAre R s v c
    → AllVanish R s (add2_asserts R t u v) ↔ (word a ≡ word_sum (word b) (word c))

-- over limbs of 16 bits both terms of `add3` are zero exactly if a is b + c + d modulo 2^32
abbrev pub Add3IsExact : {F : Type 0} → CommRing F → ℕ → Type 0
Add3IsExact {F} R characteristic =
    (t u v w : Limbs (Term F)) (s : Leaf → F) (a b c d : Limbs ℕ) → IsDomain R → 3 * 2 ^ 16 < characteristic
    → AreLimbs a → AreLimbs b → AreLimbs c → AreLimbs d
    → LimbsAre R s t a → LimbsAre R s u b → LimbsAre R s v c → LimbsAre R s w d
    → AllVanish R s (add3_asserts R t u v w) ↔ (word a ≡ word_sum_3 (word b) (word c) (word d))

-- v has the images of bits c as its values, and the limbs those of the halves of b xor c rotated to the left
pub record IsXorOf {F : Type 0} (R : CommRing F) (s : Leaf → F) (t : Limbs (Term F)) (v : List (Term F)) (shift : ℕ) (b : List ℕ) : Type 0 where
  pub c : List ℕ
  pub bits : AreBits c
  pub values : map (value (self_algebra R) s) v ≡ map (image R) c
  pub low : value (self_algebra R) s t.low ≡ image R (low_half (xor_bits b (rotated_left shift c)))
  pub high :
      value (self_algebra R) s t.high ≡ image R (high_half (xor_bits b (rotated_left shift c)))

-- with b made of bits all 34 terms of `xor_32_shift` are zero exactly if c is made of bits, and a0 and a1 are the
-- images of the halves of b xor c rotated to the left
abbrev pub XorIsExact : {F : Type 0} → CommRing F → Type 0
XorIsExact {F} R =
    (t : Limbs (Term F)) (u v : List (Term F)) (shift : ℕ) (s : Leaf → F) (b : List ℕ) → IsDomain R
    → AreBits b → map (value (self_algebra R) s) u ≡ map (image R) b
    → AllVanish R s (xor_asserts R t u v shift) ↔ IsXorOf R s t v shift b
