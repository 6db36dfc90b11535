use Rattle.std.proofs.Common.{◌≡◌, map}
use Rattle.std.specs.List.{range_with_len}
use Rattle.blake3.specs.Hashing.{block_at, chaining_value_after}
use Rattle.air_blake3.specs.Traces.{block_in}
use Rattle.air_blake3.proofs.messages.blocks_of_message.Given as goal

-- `index` blocks were pushed, and the chaining value is the one after them
abbrev pub invariant-loop-index : goal.invariant-loop-index
invariant-loop-index l = record {
  chaining : l.chaining ≡ chaining_value_after l.message l.index;
  blocks : map block_in l.blocks.items ≡ map (λ k. block_at l.message k (chaining_value_after l.message k)) (range_with_len 0 l.index);
}
