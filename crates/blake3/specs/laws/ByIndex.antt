-- The compression by indices equals the compression.
use Rattle.std.specs.Prelude.{◌≡◌, ℕ, zero, suc, refl}
use Rattle.std.proofs.Common.{◌∙◌, ap}
use Rattle.blake3.specs.Compression.{Block, round, place_in, first_state, after_rounds, compress}
use Rattle.blake3.specs.ByIndex.{words, round_by_index, rounds_by_index, output_by_index, compress_by_index}
use Rattle.blake3.specs.declared.words.State.{State}

pub round_is : (v : State) (m : ℕ → ℕ) → words (round v m) ≡ round_by_index (words v) m
unfolding round
round_is v m = refl

pub rounds_are : (v : State) (m : ℕ → ℕ) (r : ℕ) → words (after_rounds v m r) ≡ rounds_by_index (words v) m r
unfolding after_rounds
rounds_are v m zero = refl
rounds_are v m (suc r) =
    round_is (after_rounds v m r) (λ i. m (place_in r i))
    ∙ ap (λ w. round_by_index w (λ i. m (place_in r i))) (rounds_are v m r)

pub compress_is : (b : Block) → words (compress b) ≡ compress_by_index b
compress_is b = ap (λ v. output_by_index v b.chaining) (rounds_are (first_state b) b.message 7)
