use Rattle.std.proofs.Common.{◌≡◌}
use Rattle.air_field.specs.Degree.{degree_by}
use Rattle.air_symbolic.specs.Weights.{leaf_weight}
use Rattle.air_symbolic.specs.Pools.{term_at}
use Rattle.air_symbolic.specs.DegreeTables.{AreDegrees}
use Rattle.air_symbolic.proofs.pools.pool.ExprPool.table_over.Given as goal

-- the degrees of the first numbers are known, and took one turn each
abbrev pub invariant-loop-number : goal.invariant-loop-number
invariant-loop-number g l = record {
  degrees : AreDegrees (λ i. degree_by (leaf_weight l.weight) (term_at g.A.SymLeaf.reads l.self i)) l.number l.table.degrees.items;
  turns : l.table.turns ≡ l.number;
}
