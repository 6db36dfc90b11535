-- The indices in the message from which the rounds take their words.
use Rattle.std.specs.Prelude.{◌≡◌, ℕ, zero, suc, refl, ◌<◌, List, [], ◌∷◌, slice_index, ⊤}
use Rattle.std.proofs.Common.{arith}
use Rattle.blake3.specs.Compression.{permutation, place_in}

-- each index is below 16
abbrev AllBelow : List ℕ → Type 0
AllBelow [] = ⊤
AllBelow (x ∷ xs) = (x < 16) × AllBelow xs

below_at : (xs : List ℕ) → AllBelow xs → (i : ℕ) → slice_index xs i < 16
below_at [] h i = omega arith
below_at (x ∷ xs) h zero = h.0
below_at (x ∷ xs) h (suc i) = below_at xs h.1 i

permutation_below : AllBelow permutation
permutation_below = (omega arith, (omega arith, (omega arith, (omega arith, (omega arith, (omega arith, (omega arith, (omega arith, (omega arith, (omega arith, (omega arith, (omega arith, (omega arith, (omega arith, (omega arith, (omega arith, tt))))))))))))))))

pub permutation_below_at : (i : ℕ) → slice_index permutation i < 16
permutation_below_at i = below_at permutation permutation_below i

-- round 0 uses the words in order; round r + 1 uses at index i the word that round r uses at the permuted index
pub place_in-zero : (i : ℕ) → place_in 0 i ≡ i
unfolding place_in
place_in-zero i = refl

pub place_in-suc : (r i : ℕ) → place_in r (slice_index permutation i) ≡ place_in (suc r) i
unfolding place_in
place_in-suc r i = refl

pub place_in-below : (r i : ℕ) → i < 16 → place_in r i < 16
unfolding place_in
place_in-below zero i h = h
place_in-below (suc r) i h = place_in-below r (slice_index permutation i) (permutation_below_at i)
