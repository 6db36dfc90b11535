-- The blocks of a message of one chunk.
use Rattle.std.specs.Prelude.{◌≡◌, ℕ, ◌-◌, List, length, map, HoldsAt}
use Rattle.std.specs.List.{range_with_len}
use Rattle.blake3.specs.Compression.{Block, compress}
use Rattle.blake3.specs.Hashing.{block_at, block_count, chaining_value_after, first_words}
use Rattle.air_blake3.specs.Traces.{block_in}
use Rattle.air_blake3.specs.declared.blocks.InputBlock.{InputBlock}

-- the blocks of a message, in order, each with the chaining value after the blocks before it
abbrev pub blocks_of : List ℕ → List Block
blocks_of bytes = map (λ k. block_at bytes k (chaining_value_after bytes k)) (range_with_len 0 (block_count (length bytes)))

-- the first eight words of the last block's output are `digest`
abbrev pub EndsWith : List ℕ → List InputBlock → Type 0
EndsWith digest blocks =
    HoldsAt (λ block. first_words (compress (block_in block)) ≡ digest) blocks (length blocks - 1)
