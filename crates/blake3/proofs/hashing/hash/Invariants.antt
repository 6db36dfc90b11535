use Rattle.std.proofs.Common.{◌≡◌}
use Rattle.blake3.specs.Hashing.{chaining_value_after}
use Rattle.blake3.proofs.hashing.hash.Given as goal

-- the chaining value is the one after `block` blocks
abbrev pub invariant-loop-block : goal.invariant-loop-block
invariant-loop-block l = l.chaining ≡ chaining_value_after l.message l.block
