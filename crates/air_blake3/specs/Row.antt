-- The columns of one compression in a row, and the assertions about them.
use Rattle.std.specs.Prelude.{ℕ, ◌+◌, ◌*◌, ◌/◌, ◌%◌, ◌^◌, List, [], ◌∷◌, ◌++◌, slice_index}
use Rattle.air_field.specs.Algebra.{xor_term}
use Rattle.air_field.specs.Ring.{CommRing, image}
use Rattle.air_field.specs.Term.{Term}
use Rattle.air_builder.specs.Assertion.{Assertion}
use Rattle.air_builder.specs.Notation.{constant, ◌≐◌}
use Rattle.air_gadgets.specs.Words.{Limbs}
use Rattle.air_gadgets.specs.Gadgets.{test_asserts, xor_asserts}
use Rattle.air_author.specs.Constraints.{asserts_of_first}
use Rattle.blake3.specs.Compression.{diagonals, from_diagonals, place_in}
use Rattle.blake3.specs.declared.words.Quarter.{Quarter}
use Rattle.blake3.specs.declared.words.State.{State}
use Rattle.air_blake3.specs.Words.{QuarterTerms, BitTerms, StateTerms, packed_limbs, map_terms, bits_at, bits_of, state_of}
use Rattle.air_blake3.specs.Mixing.{mix_asserts}

-- ---- columns

-- the columns where the bits of word i of the message begin, and of word i of the chaining value, for i below 4
abbrev pub message_column : ℕ → ℕ
message_column i = 32 * i

abbrev pub chaining_column : ℕ → ℕ
chaining_column i = 512 + 32 * i

-- 68 columns for four words, from column `first` on, and 272 for all sixteen
abbrev pub quarter_from : ℕ → Quarter
quarter_from first = record { a = first; b = first + 2; c = first + 34; d = first + 36 }

abbrev pub state_from : ℕ → State
state_from first = record {
  q0 = quarter_from first;
  q1 = quarter_from (first + 68);
  q2 = quarter_from (first + 136);
  q3 = quarter_from (first + 204);
}

-- the state before a round, in the columns of its diagonals
abbrev pub round_column : ℕ → ℕ
round_column r = 640 + 1088 * r

abbrev pub before_round : ℕ → State
before_round r = from_diagonals (state_from (round_column r))

-- the columns where the bits of word c of column i of the last state begin, and of four words of the output
abbrev pub last_column : ℕ → ℕ
last_column i = 8528 + 32 * i

abbrev pub output_columns : ℕ → Quarter
output_columns i = record { a = 8656 + 32 * i; b = 8784 + 32 * i; c = 8912 + 32 * i; d = 9040 + 32 * i }

-- the columns of the eight words of the message that a round uses from an index on
abbrev pub eight_columns : ℕ → ℕ → List ℕ
eight_columns r from =
    message_column (place_in r (from + 0)) ∷ message_column (place_in r (from + 1)) ∷
    message_column (place_in r (from + 2)) ∷ message_column (place_in r (from + 3)) ∷
    message_column (place_in r (from + 4)) ∷ message_column (place_in r (from + 5)) ∷
    message_column (place_in r (from + 6)) ∷ message_column (place_in r (from + 7)) ∷ []

-- ---- assertions

-- w is v with its columns mixed, with u in between and the eight words of the message at the columns m
unfoldable pub columns_asserts : {F : Type 0} → CommRing F → (Term F → Term F) → StateTerms F → List ℕ → StateTerms F → StateTerms F → List (Assertion F)
columns_asserts R f v m u w =
    mix_asserts R f v.q0 (bits_at (slice_index m 0)) (bits_at (slice_index m 1)) u.q0 w.q0 ++
    (mix_asserts R f v.q1 (bits_at (slice_index m 2)) (bits_at (slice_index m 3)) u.q1 w.q1 ++
    (mix_asserts R f v.q2 (bits_at (slice_index m 4)) (bits_at (slice_index m 5)) u.q2 w.q2 ++
    mix_asserts R f v.q3 (bits_at (slice_index m 6)) (bits_at (slice_index m 7)) u.q3 w.q3))

-- a round: mixes the columns of the state before it, and then the diagonals
unfoldable pub round_at : {F : Type 0} → CommRing F → (Term F → Term F) → ℕ → List (Assertion F)
round_at R f r =
    let first = round_column r in
    columns_asserts R f (state_of (before_round r)) (eight_columns r 0) (state_of (state_from (first + 272))) (state_of (state_from (first + 544))) ++
    columns_asserts R f (state_of (diagonals (state_from (first + 544)))) (eight_columns r 8) (state_of (state_from (first + 816))) (state_of (state_from (first + 1088)))

-- the limbs of t equal those of u
abbrev pub limbs_are : {F : Type 0} → Limbs (Term F) → Limbs (Term F) → List (Assertion F)
limbs_are t u = (t.low ≐ u.low) ++ (t.high ≐ u.high)

abbrev pub constant_limbs : {F : Type 0} → CommRing F → ℕ → Limbs (Term F)
constant_limbs R n = record { low = constant (image R (n % 2 ^ 16)); high = constant (image R (n / 2 ^ 16)) }

-- each element of the last list is the xor of the two at the same index
abbrev pub xors_are : {F : Type 0} → List (Term F) → List (Term F) → List (Term F) → List (Assertion F)
xors_are [] us vs = []
xors_are (t ∷ ts) [] vs = []
xors_are (t ∷ ts) (u ∷ us) [] = []
xors_are (t ∷ ts) (u ∷ us) (v ∷ vs) = (v ≐ xor_term t u) ++ xors_are ts us vs

-- a column of the first state: word a equals the bits `low`; those bits, and the words b and d, are bits; word c is the constant n
unfoldable pub first_asserts : {F : Type 0} → CommRing F → (Term F → Term F) → QuarterTerms F → List (Term F) → ℕ → List (Assertion F)
first_asserts R f q low n =
    map_terms f (test_asserts R low) ++
    (map_terms f (limbs_are q.a (packed_limbs R low)) ++
    (map_terms f (test_asserts R q.b) ++
    (map_terms f (limbs_are q.c (constant_limbs R n)) ++
    map_terms f (test_asserts R q.d))))

unfoldable pub first_at : {F : Type 0} → CommRing F → (Term F → Term F) → List (Assertion F)
first_at R f =
    let v = state_of (before_round 0) in
    first_asserts R f v.q0 (bits_at (chaining_column 0)) 0x6A09E667 ++
    (first_asserts R f v.q1 (bits_at (chaining_column 1)) 0xBB67AE85 ++
    (first_asserts R f v.q2 (bits_at (chaining_column 2)) 0x3C6EF372 ++
    first_asserts R f v.q3 (bits_at (chaining_column 3)) 0xA54FF53A))

-- a column of the output, from a column of the last state, the bits of its word c, and two words of the chaining value
unfoldable pub output_asserts : {F : Type 0} → CommRing F → (Term F → Term F) → QuarterTerms F → List (Term F) → List (Term F) → List (Term F) → BitTerms F → List (Assertion F)
output_asserts R f q bits low high out =
    (map_terms f (test_asserts R bits) ++ map_terms f (limbs_are q.c (packed_limbs R bits))) ++
    (map_terms f (xor_asserts R q.a bits out.a 0) ++
    (map_terms f (xors_are q.b q.d out.b) ++
    (map_terms f (xors_are bits low out.c) ++
    map_terms f (xors_are q.d high out.d))))

unfoldable pub output_at : {F : Type 0} → CommRing F → (Term F → Term F) → List (Assertion F)
output_at R f =
    let v = state_of (before_round 0) in
    let w = state_of (before_round 7) in
    output_asserts R f w.q0 (bits_at (last_column 0)) (bits_at (chaining_column 0)) v.q0.b (bits_of (output_columns 0)) ++
    (output_asserts R f w.q1 (bits_at (last_column 1)) (bits_at (chaining_column 1)) v.q1.b (bits_of (output_columns 1)) ++
    (output_asserts R f w.q2 (bits_at (last_column 2)) (bits_at (chaining_column 2)) v.q2.b (bits_of (output_columns 2)) ++
    output_asserts R f w.q3 (bits_at (last_column 3)) (bits_at (chaining_column 3)) v.q3.b (bits_of (output_columns 3))))

-- a word of the message consists of bits
unfoldable pub message_at : {F : Type 0} → CommRing F → (Term F → Term F) → ℕ → List (Assertion F)
message_at R f i = map_terms f (test_asserts R (bits_at (message_column i)))

-- one compression in each row
abbrev pub compression : {F : Type 0} → CommRing F → List (Assertion F)
compression R =
    asserts_of_first (message_at R (λ z. z)) 16 ++
    (first_at R (λ z. z) ++ (asserts_of_first (round_at R (λ z. z)) 7 ++ output_at R (λ z. z)))
