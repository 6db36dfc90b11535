use Rattle.std.proofs.Common.{◌≡◌}
use Rattle.std.specs.Prelude.{slice_index}
use Rattle.blake3.specs.Compression.{first_state, after_rounds}
use Rattle.blake3.specs.Blocks.{block_of}
use Rattle.blake3.proofs.compression.compress.Given as goal

-- the state is the one after `turn` rounds
abbrev pub invariant-loop-turn : goal.invariant-loop-turn
invariant-loop-turn l =
    l.state ≡ after_rounds (first_state (block_of l.chaining l.message l.rest)) (slice_index l.message) l.turn
