use Rattle.std.proofs.Common.{◌≡◌}
use Rattle.keccak.specs.Hashing.{padded, absorbed}
use Rattle.keccak.proofs.hashing.sponge.Given as goal

-- `index` blocks are absorbed
abbrev pub invariant-loop-index : goal.invariant-loop-index
invariant-loop-index l = l.state ≡ absorbed (padded l.first l.message) l.index
