use Rattle.std.proofs.Common.{ℕ, ◌+◌}
use Rattle.air_print.specs.Names.{total_below, places_at}
use Rattle.air_print.specs.Counts.{AreCounted}
use Rattle.air_print.proofs.counts.count_reached.Given as goal

-- the operands of the visited nodes are counted
abbrev pub invariant-loop-number : goal.invariant-loop-number
invariant-loop-number g l =
    (f : ℕ → ℕ) → AreCounted f l.initial.counts → AreCounted (λ i. f i + total_below (places_at l.pool.nodes l.marks i) l.number) l.counts
