-- Numbers and words as the values of terms.
use Rattle.std.specs.Prelude.{◌≡◌, ℕ, ◌^◌, ◌<◌}
use Rattle.air_field.specs.Ring.{CommRing, image, self_algebra}
use Rattle.air_field.specs.Term.{Leaf, Term}
use Rattle.air_field.specs.Value.{value}
use Rattle.air_gadgets.specs.Words.{Limbs, AreLimbs, word, word_sum, word_sum_3}
use Rattle.air_gadgets.specs.Exact.{LimbsAre}

-- the term's value is the image of a number below a bound
pub record IsNumberBelow {F : Type 0} (R : CommRing F) (s : Leaf → F) (bound : ℕ) (t : Term F) : Type 0 where
  pub number : ℕ
  pub below : number < bound
  pub is : value (self_algebra R) s t ≡ image R number

-- both limbs have 16 bits
abbrev pub IsWord : {F : Type 0} → CommRing F → (Leaf → F) → Limbs (Term F) → Type 0
IsWord R s t = IsNumberBelow R s (2 ^ 16) t.low × IsNumberBelow R s (2 ^ 16) t.high

-- The limbs are those of words a, b and c, and a is b + c modulo 2^32.
pub record AddsUp {F : Type 0} (R : CommRing F) (s : Leaf → F) (t u v : Limbs (Term F)) : Type 0 where
  pub a : Limbs ℕ
  pub b : Limbs ℕ
  pub c : Limbs ℕ
  pub are_words : AreLimbs a × AreLimbs b × AreLimbs c
  pub stand : LimbsAre R s t a × LimbsAre R s u b × LimbsAre R s v c
  pub sum : word a ≡ word_sum (word b) (word c)

-- The limbs are those of words a, b, c and d, and a is b + c + d modulo 2^32.
pub record AddsUp3 {F : Type 0} (R : CommRing F) (s : Leaf → F) (t u v w : Limbs (Term F)) : Type 0 where
  pub a : Limbs ℕ
  pub b : Limbs ℕ
  pub c : Limbs ℕ
  pub d : Limbs ℕ
  pub are_words : AreLimbs a × AreLimbs b × AreLimbs c × AreLimbs d
  pub stand : LimbsAre R s t a × LimbsAre R s u b × LimbsAre R s v c × LimbsAre R s w d
  pub sum : word a ≡ word_sum_3 (word b) (word c) (word d)
