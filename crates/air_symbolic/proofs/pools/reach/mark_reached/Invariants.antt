use Rattle.std.proofs.Common.{◌≡◌, ◌≤◌, length, All}
use Rattle.air_symbolic.specs.Reach.{Marked}
use Rattle.air_symbolic.proofs.Marking.{OnlyReached, ClosedFrom}
use Rattle.air_symbolic.proofs.pools.reach.mark_reached.Given as goal

-- Marked numbers are reached, and the marked nodes visited so far have their operands marked.
abbrev pub invariant-loop-number : goal.invariant-loop-number
invariant-loop-number g l =
    let read = g.A.SymLeaf.reads l.pool.base in
    record {
      below : l.number ≤ length l.marks;
      places : length l.marks ≡ length l.pool.nodes;
      roots : All (λ i. Marked l.marks i) l.roots;
      closed : ClosedFrom read l.pool.nodes l.roots l.number l.marks;
      only : OnlyReached read l.pool.nodes l.roots l.marks;
    }

abbrev pub decreases-loop-number : goal.decreases-loop-number
decreases-loop-number g l = l.number
