use Rattle.std.proofs.Common.{ℕ, ◌+◌, arith}
use Rattle.air_print.specs.Names.{total_below, places_at}
use Rattle.air_print.proofs.CountLemmas.{AreCounted-same, sum-more}
use Rattle.air_print.proofs.counts.count_reached.Goals as goal

pub loop-number-preserved : goal.loop-number-preserved
loop-number-preserved g c =
    let places = places_at c.args.pool.now.nodes c.args.marks.now in
    let k = c.loop-number.number in
    λ (f : ℕ → ℕ) h.
    AreCounted-same (λ i. f i + total_below (places i) k + places i k) (λ i. f i + total_below (places i) (k + 1)) c.count_node.new.counts
    (λ i. omega (arith, sum-more (places i) k))
    (c.count_node.ensures (λ i. f i + total_below (places i) k) (c.loop-number.invariant f h))
