-- BLAKE3's compression function on words of 32 bits, as numbers below 2^32.
use Rattle.std.specs.Prelude.{ℕ, zero, suc, ◌+◌, ◌%◌, ◌^◌, List, [], ◌∷◌, bit_xor, slice_index}
use Rattle.std.specs.Int.{w32, rotate_right}
use Rattle.blake3.specs.declared.words.Quarter.{Quarter}
use Rattle.blake3.specs.declared.words.State.{State}

-- half of G, with its two rotations and a word of the message
abbrev pub half_mix : ℕ → ℕ → Quarter → ℕ → Quarter
half_mix j k q m =
    let a = (q.a + q.b + m) % 2 ^ 32 in
    let d = rotate_right w32 (bit_xor q.d a) j in
    let c = (q.c + d) % 2 ^ 32 in
    let b = rotate_right w32 (bit_xor q.b c) k in
    record { a = a; b = b; c = c; d = d }

-- G, with two words of the message
unfoldable pub mix : Quarter → ℕ → ℕ → Quarter
mix q m n = half_mix 8 7 (half_mix 16 12 q m) n

-- G on each column of a state, with eight words of the message
abbrev pub columns_mixed : State → (ℕ → ℕ) → State
columns_mixed v m = record {
  q0 = mix v.q0 (m 0) (m 1);
  q1 = mix v.q1 (m 2) (m 3);
  q2 = mix v.q2 (m 4) (m 5);
  q3 = mix v.q3 (m 6) (m 7);
}

-- the diagonals as columns, and columns as diagonals
abbrev pub diagonals : State → State
diagonals v = record {
  q0 = record { a = v.q0.a; b = v.q1.b; c = v.q2.c; d = v.q3.d };
  q1 = record { a = v.q1.a; b = v.q2.b; c = v.q3.c; d = v.q0.d };
  q2 = record { a = v.q2.a; b = v.q3.b; c = v.q0.c; d = v.q1.d };
  q3 = record { a = v.q3.a; b = v.q0.b; c = v.q1.c; d = v.q2.d };
}

abbrev pub from_diagonals : State → State
from_diagonals v = record {
  q0 = record { a = v.q0.a; b = v.q3.b; c = v.q2.c; d = v.q1.d };
  q1 = record { a = v.q1.a; b = v.q0.b; c = v.q3.c; d = v.q2.d };
  q2 = record { a = v.q2.a; b = v.q1.b; c = v.q0.c; d = v.q3.d };
  q3 = record { a = v.q3.a; b = v.q2.b; c = v.q1.c; d = v.q0.d };
}

-- a round: the columns are mixed, and then the diagonals
unfoldable pub round : State → (ℕ → ℕ) → State
round v m = from_diagonals (columns_mixed (diagonals (columns_mixed v m)) (λ i. m (8 + i)))

-- the permutation of the message's words from one round to the next
abbrev pub permutation : List ℕ
permutation = 2 ∷ 6 ∷ 3 ∷ 10 ∷ 7 ∷ 0 ∷ 4 ∷ 13 ∷ 1 ∷ 11 ∷ 12 ∷ 5 ∷ 9 ∷ 14 ∷ 15 ∷ 8 ∷ []

-- the index in the message of the word that round r uses at index i
unfoldable pub place_in : ℕ → ℕ → ℕ
place_in zero i = i
place_in (suc r) i = place_in r (slice_index permutation i)

-- the state after r rounds
unfoldable pub after_rounds : State → (ℕ → ℕ) → ℕ → State
after_rounds v m zero = v
after_rounds v m (suc r) = round (after_rounds v m r) (λ i. m (place_in r i))

-- The input of a compression: the chaining value, the message, the counter, the length of the block and the flags.
pub record Block : Type 0 where
  pub chaining : ℕ → ℕ
  pub message : ℕ → ℕ
  pub counter_low : ℕ
  pub counter_high : ℕ
  pub length : ℕ
  pub flags : ℕ

-- the state before the rounds
abbrev pub first_state : Block → State
first_state b = record {
  q0 = record { a = b.chaining 0; b = b.chaining 4; c = 0x6A09E667; d = b.counter_low };
  q1 = record { a = b.chaining 1; b = b.chaining 5; c = 0xBB67AE85; d = b.counter_high };
  q2 = record { a = b.chaining 2; b = b.chaining 6; c = 0x3C6EF372; d = b.length };
  q3 = record { a = b.chaining 3; b = b.chaining 7; c = 0xA54FF53A; d = b.flags };
}

-- four words of the output, from a column of the last state and two words of the chaining value
abbrev pub output_column : Quarter → ℕ → ℕ → Quarter
output_column q low high = record {
  a = bit_xor q.c q.a;
  b = bit_xor q.b q.d;
  c = bit_xor q.c low;
  d = bit_xor q.d high;
}

-- the output, in four columns, from the last state and the chaining value
abbrev pub outputs : State → (ℕ → ℕ) → State
outputs v h = record {
  q0 = output_column v.q0 (h 0) (h 4);
  q1 = output_column v.q1 (h 1) (h 5);
  q2 = output_column v.q2 (h 2) (h 6);
  q3 = output_column v.q3 (h 3) (h 7);
}

-- the sixteen words of the output, in four columns
abbrev pub compress : Block → State
compress b = outputs (after_rounds (first_state b) b.message 7) b.chaining
