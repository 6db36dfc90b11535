use Rattle.std.proofs.Common.{◌<◌, ℕ, get_or, Contains}
use Rattle.air_symbolic.specs.Reach.{Marked, MarkedMore}
use Rattle.air_symbolic.proofs.pools.reach.mark_all.Given as goal

abbrev pub invariant-loop-root : goal.invariant-loop-root
invariant-loop-root g l = record {
  more : MarkedMore (λ i. Contains l.roots i) l.initial.marks l.marks;
  marked : (k d : ℕ) → k < l.root-index → Marked l.marks (get_or l.roots k d);
}
