-- The last block of a message.
use Rattle.std.proofs.Common.{◌≡◌, ◌+◌, ◌-◌, ◌/◌, ◌∙◌, ℕ, suc, List, length, map, get_or, sym, ap, arith}
use Rattle.std.proofs.Math.ListN.{get_or-map}
use Rattle.std.proofs.lemmas.List.{length-map}
use Rattle.std.proofs.lemmas.List.FromFn.{get_or-map-range_with_len, length-map-range_with_len}
use Rattle.blake3.specs.Compression.{Block, compress}
use Rattle.blake3.specs.Hashing.{block_at, chaining_value_after, first_words, hash}
use Rattle.air_blake3.specs.Messages.{EndsWith, blocks_of}
use Rattle.air_blake3.specs.Traces.{block_in}
use Rattle.air_blake3.specs.declared.blocks.InputBlock.{InputBlock}

-- the output of a message's last block begins with the digest
pub last_ends : (bytes : List ℕ) (blocks : List InputBlock) → map block_in blocks ≡ blocks_of bytes → EndsWith (hash bytes) blocks
unfolding chaining_value_after
last_ends bytes blocks e d =
    let n : ℕ = (length bytes - 1) / 64 in
    let f : ℕ → Block = λ k. block_at bytes k (chaining_value_after bytes k) in
    let count : length blocks ≡ n + 1 = sym (length-map blocks block_in) ∙ ap length e ∙ length-map-range_with_len f 0 (n + 1) in
    let last : length blocks - 1 ≡ n = omega (arith, count) in
    let next : suc n ≡ n + 1 = omega arith in
    let is : block_in (get_or blocks n d) ≡ f n =
    sym (get_or-map block_in blocks n d) ∙ ap (λ bs. get_or bs n (block_in d)) e ∙ get_or-map-range_with_len f 0 (n + 1) n n (block_in d) (omega arith) (omega arith) in
    ap (λ i. first_words (compress (block_in (get_or blocks i d)))) last
    ∙ ap (λ b. first_words (compress b)) is
    ∙ ap (chaining_value_after bytes) next
