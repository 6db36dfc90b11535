-- The words that columns hold, and the theorems.
use Rattle.std.specs.Prelude.{◌≡◌, ℕ, ◌+◌, ◌*◌, ◌^◌, ◌<◌, List, length, map}
use Rattle.air_field.specs.Ring.{CommRing, image, self_algebra}
use Rattle.air_field.specs.Term.{Leaf, Term}
use Rattle.air_field.specs.Value.{value}
use Rattle.air_gadgets.specs.Bits.{AreBits}
use Rattle.air_gadgets.specs.Words.{Limbs, AreLimbs, word, number_of}
use Rattle.air_builder.specs.Vanishing.{AllVanish}
use Rattle.air_gadgets.specs.Exact.{LimbsAre}
use Rattle.air_field.specs.Domain.{IsDomain}
use Rattle.blake3.specs.Compression.{Block, half_mix, mix, columns_mixed, diagonals, place_in, first_state, after_rounds, compress}
use Rattle.blake3.specs.Blocks.{columns_half}
use Rattle.blake3.specs.declared.words.Quarter.{Quarter}
use Rattle.blake3.specs.declared.words.State.{State}
use Rattle.air_blake3.specs.Words.{QuarterTerms, BitTerms, StateTerms, bits_at, bits_of, state_of}
use Rattle.air_blake3.specs.Mixing.{mix_asserts}
use Rattle.air_blake3.specs.Row.{message_column, chaining_column, state_from, round_column, before_round, last_column, output_columns, compression}

-- the values of the terms are the images of two limbs of 16 bits, and the limbs are the word n
pub record IsLimbsOf {F : Type 0} (R : CommRing F) (s : Leaf → F) (t : Limbs (Term F)) (n : ℕ) : Type 0 where
  pub limbs : Limbs ℕ
  pub small : AreLimbs limbs
  pub values : LimbsAre R s t limbs
  pub number : word limbs ≡ n

-- the values of the terms are the images of 32 bits, and the bits are the word n
pub record IsBitsOf {F : Type 0} (R : CommRing F) (s : Leaf → F) (ts : List (Term F)) (n : ℕ) : Type 0 where
  pub bits : List ℕ
  pub are : AreBits bits
  pub count : length bits ≡ 32
  pub values : map (value (self_algebra R) s) ts ≡ map (image R) bits
  pub number : number_of bits ≡ n

-- the terms hold these four words, and all sixteen
pub record IsQuarterOf {F : Type 0} (R : CommRing F) (s : Leaf → F) (t : QuarterTerms F) (q : Quarter) : Type 0 where
  pub a : IsLimbsOf R s t.a q.a
  pub b : IsBitsOf R s t.b q.b
  pub c : IsLimbsOf R s t.c q.c
  pub d : IsBitsOf R s t.d q.d

pub record IsStateOf {F : Type 0} (R : CommRing F) (s : Leaf → F) (t : StateTerms F) (v : State) : Type 0 where
  pub q0 : IsQuarterOf R s t.q0 v.q0
  pub q1 : IsQuarterOf R s t.q1 v.q1
  pub q2 : IsQuarterOf R s t.q2 v.q2
  pub q3 : IsQuarterOf R s t.q3 v.q3

-- the input columns hold this block
pub record IsInput {F : Type 0} (R : CommRing F) (s : Leaf → F) (b : Block) : Type 0 where
  pub message : (i : ℕ) → i < 16 → IsBitsOf R s (bits_at (message_column i)) (b.message i)
  pub chaining_low : (i : ℕ) → i < 4 → IsBitsOf R s (bits_at (chaining_column i)) (b.chaining i)
  pub chaining_4 : IsBitsOf R s (bits_at (before_round 0).q0.b) (b.chaining 4)
  pub chaining_5 : IsBitsOf R s (bits_at (before_round 0).q1.b) (b.chaining 5)
  pub chaining_6 : IsBitsOf R s (bits_at (before_round 0).q2.b) (b.chaining 6)
  pub chaining_7 : IsBitsOf R s (bits_at (before_round 0).q3.b) (b.chaining 7)
  pub counter_low : IsBitsOf R s (bits_at (before_round 0).q0.d) b.counter_low
  pub counter_high : IsBitsOf R s (bits_at (before_round 0).q1.d) b.counter_high
  pub length : IsBitsOf R s (bits_at (before_round 0).q2.d) b.length
  pub flags : IsBitsOf R s (bits_at (before_round 0).q3.d) b.flags

-- the terms hold these four words by their bits, and the output columns hold all sixteen
pub record IsOutputOf {F : Type 0} (R : CommRing F) (s : Leaf → F) (t : BitTerms F) (q : Quarter) : Type 0 where
  pub a : IsBitsOf R s t.a q.a
  pub b : IsBitsOf R s t.b q.b
  pub c : IsBitsOf R s t.c q.c
  pub d : IsBitsOf R s t.d q.d

pub record IsOutput {F : Type 0} (R : CommRing F) (s : Leaf → F) (v : State) : Type 0 where
  pub q0 : IsOutputOf R s (bits_of (output_columns 0)) v.q0
  pub q1 : IsOutputOf R s (bits_of (output_columns 1)) v.q1
  pub q2 : IsOutputOf R s (bits_of (output_columns 2)) v.q2
  pub q3 : IsOutputOf R s (bits_of (output_columns 3)) v.q3

-- the input columns hold a block, and the output columns its compression
abbrev pub HoldsCompression : {F : Type 0} → CommRing F → (Leaf → F) → Type 0
HoldsCompression R s = (b : Block) × (IsInput R s b) × (IsOutput R s (compress b))

-- The states of round r that a row holds for a block, besides its input and output.
pub record HoldsStates {F : Type 0} (R : CommRing F) (s : Leaf → F) (b : Block) (r : ℕ) (m : ℕ → ℕ) : Type 0 where
  pub columns_middle : IsStateOf R s (state_of (state_from (round_column r + 272))) (columns_half (after_rounds (first_state b) b.message r) m)
  pub columns : IsStateOf R s (state_of (state_from (round_column r + 544))) (columns_mixed (after_rounds (first_state b) b.message r) m)
  pub diagonals_middle : IsStateOf R s (state_of (state_from (round_column r + 816)))
      (columns_half (diagonals (columns_mixed (after_rounds (first_state b) b.message r) m)) (λ i. m (8 + i)))
  pub diagonals_after : IsStateOf R s (state_of (state_from (round_column r + 1088)))
      (columns_mixed (diagonals (columns_mixed (after_rounds (first_state b) b.message r) m)) (λ i. m (8 + i)))

pub record HoldsRow {F : Type 0} (R : CommRing F) (s : Leaf → F) (b : Block) : Type 0 where
  pub input : IsInput R s b
  pub first : IsStateOf R s (state_of (before_round 0)) (first_state b)
  pub rounds : (r : ℕ) → r < 7 → HoldsStates R s b r (λ i. b.message (place_in r i))
  pub last_0 : IsBitsOf R s (bits_at (last_column 0)) (after_rounds (first_state b) b.message 7).q0.c
  pub last_1 : IsBitsOf R s (bits_at (last_column 1)) (after_rounds (first_state b) b.message 7).q1.c
  pub last_2 : IsBitsOf R s (bits_at (last_column 2)) (after_rounds (first_state b) b.message 7).q2.c
  pub last_3 : IsBitsOf R s (bits_at (last_column 3)) (after_rounds (first_state b) b.message 7).q3.c
  pub output : IsOutput R s (compress b)

-- each word in bits has 32 terms
pub record HasAllBits {F : Type 0} (t : QuarterTerms F) : Type 0 where
  pub b : length t.b ≡ 32
  pub d : length t.d ≡ 32

-- If all terms of G are zero, the words after are G of the words before.
abbrev pub MixIsSound : {F : Type 0} → CommRing F → ℕ → Type 0
MixIsSound {F} R characteristic =
    (t : QuarterTerms F) (m n : List (Term F)) (u v : QuarterTerms F) (s : Leaf → F) (q : Quarter) (x y : ℕ)
    → IsDomain R → 3 * 2 ^ 16 < characteristic → HasAllBits u → HasAllBits v
    → IsQuarterOf R s t q → IsBitsOf R s m x → IsBitsOf R s n y → AllVanish R s (mix_asserts R (λ z. z) t m n u v)
    → IsQuarterOf R s v (mix q x y)

-- If the words after are G of the words before, with its first half in between, all terms of G are zero.
abbrev pub MixIsComplete : {F : Type 0} → CommRing F → ℕ → Type 0
MixIsComplete {F} R characteristic =
    (t : QuarterTerms F) (m n : List (Term F)) (u v : QuarterTerms F) (s : Leaf → F) (q : Quarter) (x y : ℕ)
    → IsDomain R → 3 * 2 ^ 16 < characteristic → IsQuarterOf R s t q → IsBitsOf R s m x → IsBitsOf R s n y
    → IsQuarterOf R s u (half_mix 16 12 q x) → IsQuarterOf R s v (mix q x y)
    → AllVanish R s (mix_asserts R (λ z. z) t m n u v)

-- If all terms are zero at a row, it holds a block and its compression.
abbrev pub CompressionIsSound : {F : Type 0} → CommRing F → ℕ → Type 0
CompressionIsSound {F} R characteristic =
    (s : Leaf → F) → IsDomain R → 3 * 2 ^ 16 < characteristic → AllVanish R s (compression R)
    → HoldsCompression R s

-- If a row holds a block, its states and its compression, all terms are zero.
abbrev pub CompressionIsComplete : {F : Type 0} → CommRing F → ℕ → Type 0
CompressionIsComplete {F} R characteristic =
    (s : Leaf → F) (b : Block) → IsDomain R → 3 * 2 ^ 16 < characteristic → HoldsRow R s b
    → AllVanish R s (compression R)
