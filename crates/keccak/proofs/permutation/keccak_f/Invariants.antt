use Rattle.std.proofs.Common.{◌≡◌}
use Rattle.keccak.specs.Permutation.{after_rounds}
use Rattle.keccak.proofs.permutation.keccak_f.Given as goal

-- the state is the one after `index` rounds
abbrev pub invariant-loop-index : goal.invariant-loop-index
invariant-loop-index l = l.state ≡ after_rounds l.fn.state l.index
