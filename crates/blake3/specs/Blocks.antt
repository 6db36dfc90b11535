-- The steps and the arguments of the code, in the words of the definition.
use Rattle.std.specs.Prelude.{ℕ, ◌+◌, List, [], ◌∷◌, slice_index}
use Rattle.blake3.specs.Compression.{Block, half_mix, place_in}
use Rattle.blake3.specs.declared.words.State.{State}

-- the first half of G on each column, and the second half
abbrev pub columns_half : State → (ℕ → ℕ) → State
columns_half v m = record {
  q0 = half_mix 16 12 v.q0 (m 0);
  q1 = half_mix 16 12 v.q1 (m 2);
  q2 = half_mix 16 12 v.q2 (m 4);
  q3 = half_mix 16 12 v.q3 (m 6);
}

abbrev pub columns_whole : State → (ℕ → ℕ) → State
columns_whole v m = record {
  q0 = half_mix 8 7 v.q0 (m 1);
  q1 = half_mix 8 7 v.q1 (m 3);
  q2 = half_mix 8 7 v.q2 (m 5);
  q3 = half_mix 8 7 v.q3 (m 7);
}

-- the words of a message in the order of a round, and eight of them from an index on
abbrev pub word_of_round : List ℕ → ℕ → ℕ → ℕ
word_of_round message r i = slice_index message (place_in r i)

abbrev pub eight_at : List ℕ → ℕ → ℕ → List ℕ
eight_at message r from =
    word_of_round message r (from + 0) ∷ word_of_round message r (from + 1) ∷ word_of_round message r (from + 2) ∷ word_of_round message r (from + 3) ∷
    word_of_round message r (from + 4) ∷ word_of_round message r (from + 5) ∷ word_of_round message r (from + 6) ∷ word_of_round message r (from + 7) ∷ []

-- a block from a chaining value, a message, and the rest: the two halves of the counter, the length and the flags
abbrev pub block_of : List ℕ → List ℕ → List ℕ → Block
block_of chaining message rest = record {
  chaining = slice_index chaining;
  message = slice_index message;
  counter_low = slice_index rest 0;
  counter_high = slice_index rest 1;
  length = slice_index rest 2;
  flags = slice_index rest 3;
}
