use Rattle.std.proofs.Common.{◌≤◌, Ok}
use Rattle.air_builder.specs.Builders.{Means}
use Rattle.air_author.specs.Expressions.{MakesTerm}
use Rattle.air_gadgets.proofs.Packing.{packed_above}
use Rattle.air_gadgets.proofs.values.packed.make_packed.Given as goal

-- the sum from `index` on is made
abbrev pub invariant-loop-index : goal.invariant-loop-index
invariant-loop-index g l =
    let A = g.AB.AirBuilder in
    record {
      within : l.index ≤ l.last;
      made : MakesTerm (Means g.AB.Ring.Algebra.means A.ring_of A.reads_as) A.grew A.missing A.refuses
          l.fn.builder l.builder (Ok l.sum) (packed_above (g.S.Series.term_at l.series) l.last l.index);
    }

abbrev pub decreases-loop-index : goal.decreases-loop-index
decreases-loop-index g l = l.index
