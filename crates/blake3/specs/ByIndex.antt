-- The compression by the indices of its sixteen words, as it is often written.
use Rattle.std.specs.Prelude.{ℕ, zero, suc, List, [], ◌∷◌, slice_index, slice_set, bit_xor}
use Rattle.blake3.specs.Compression.{Block, mix, place_in, first_state}
use Rattle.blake3.specs.declared.words.State.{State}

-- the sixteen words of a state, in order
abbrev pub words : State → List ℕ
words v =
    v.q0.a ∷ v.q1.a ∷ v.q2.a ∷ v.q3.a ∷
    v.q0.b ∷ v.q1.b ∷ v.q2.b ∷ v.q3.b ∷
    v.q0.c ∷ v.q1.c ∷ v.q2.c ∷ v.q3.c ∷
    v.q0.d ∷ v.q1.d ∷ v.q2.d ∷ v.q3.d ∷ []

-- G on the words at four indices, with two words of the message
abbrev pub mixed_at : ℕ → ℕ → ℕ → ℕ → ℕ → ℕ → List ℕ → List ℕ
mixed_at a b c d m n v =
    let q = mix (record { a = slice_index v a; b = slice_index v b; c = slice_index v c; d = slice_index v d }) m n in
    slice_set (slice_set (slice_set (slice_set v a q.a) b q.b) c q.c) d q.d

-- the columns of a round, and its diagonals
abbrev pub columns_by_index : (ℕ → ℕ) → List ℕ → List ℕ
columns_by_index m v =
    mixed_at 3 7 11 15 (m 6) (m 7) (mixed_at 2 6 10 14 (m 4) (m 5) (mixed_at 1 5 9 13 (m 2) (m 3) (mixed_at 0 4 8 12 (m 0) (m 1) v)))

abbrev pub diagonals_by_index : (ℕ → ℕ) → List ℕ → List ℕ
diagonals_by_index m v =
    mixed_at 3 4 9 14 (m 14) (m 15) (mixed_at 2 7 8 13 (m 12) (m 13) (mixed_at 1 6 11 12 (m 10) (m 11) (mixed_at 0 5 10 15 (m 8) (m 9) v)))

abbrev pub round_by_index : List ℕ → (ℕ → ℕ) → List ℕ
round_by_index v m = diagonals_by_index m (columns_by_index m v)

-- the words after r rounds
abbrev pub rounds_by_index : List ℕ → (ℕ → ℕ) → ℕ → List ℕ
rounds_by_index v m zero = v
rounds_by_index v m (suc r) = round_by_index (rounds_by_index v m r) (λ i. m (place_in r i))

-- word i: v_i xor v_(i + 8) for i below 8, otherwise v_i xor word i - 8 of the chaining value
abbrev pub output_by_index : List ℕ → (ℕ → ℕ) → List ℕ
output_by_index v h =
    bit_xor (slice_index v 8) (slice_index v 0) ∷ bit_xor (slice_index v 9) (slice_index v 1) ∷
    bit_xor (slice_index v 10) (slice_index v 2) ∷ bit_xor (slice_index v 11) (slice_index v 3) ∷
    bit_xor (slice_index v 4) (slice_index v 12) ∷ bit_xor (slice_index v 5) (slice_index v 13) ∷
    bit_xor (slice_index v 6) (slice_index v 14) ∷ bit_xor (slice_index v 7) (slice_index v 15) ∷
    bit_xor (slice_index v 8) (h 0) ∷ bit_xor (slice_index v 9) (h 1) ∷
    bit_xor (slice_index v 10) (h 2) ∷ bit_xor (slice_index v 11) (h 3) ∷
    bit_xor (slice_index v 12) (h 4) ∷ bit_xor (slice_index v 13) (h 5) ∷
    bit_xor (slice_index v 14) (h 6) ∷ bit_xor (slice_index v 15) (h 7) ∷ []

abbrev pub compress_by_index : Block → List ℕ
compress_by_index b = output_by_index (rounds_by_index (words (first_state b)) b.message 7) b.chaining
