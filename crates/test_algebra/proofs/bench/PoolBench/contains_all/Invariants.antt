use Rattle.std.proofs.Common.{ℕ, ◌<◌, length, slice_index_or}
use Rattle.test_algebra.proofs.bench.PoolBench.contains_all.Given as goal

abbrev pub invariant-loop-x : goal.invariant-loop-x
invariant-loop-x g l = (k d : ℕ) → k < l.x-index → slice_index_or l.xs k d < length l.self.nodes
