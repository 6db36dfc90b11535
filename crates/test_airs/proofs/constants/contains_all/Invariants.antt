use Rattle.std.proofs.Common.{ℕ, ◌<◌, slice_index_or}
use Rattle.test_airs.proofs.constants.contains_all.Given as goal

abbrev pub invariant-loop-x : goal.invariant-loop-x
invariant-loop-x g l = (k : ℕ) → (d : _) → k < l.x-index → g.R.Algebra.has l.ring (slice_index_or l.all k d)
