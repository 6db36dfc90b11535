-- `IsPool` has at most one proof, so a type may keep it.
use Rattle.std.specs.Prelude.{List}
use Rattle.std.proofs.Props.{props}
use Rattle.air_symbolic.specs.Leaves.{Leaves}
use Rattle.air_symbolic.specs.BaseLeaves.{base_leaves, base_reads}
use Rattle.air_symbolic.specs.ExtLeaves.{BaseNodes}
use Rattle.air_symbolic.specs.Nodes.{IsValidNode, NodeFits, WellFormed}
use Rattle.air_symbolic.specs.Pools.{IsPool}
use Rattle.air_symbolic.specs.declared.pools.expr.SymbolicExpr.{SymbolicExpr}
use Rattle.air_symbolic.specs.declared.pools.expr.SymbolicExpr.TheVariants.{Leaf}

module _ {A F : Type 0} (l : Leaves A F) (valid : (a : A) → IsProp (l.valid a)) where
  IsValidNode-prop : (n : SymbolicExpr A) → IsProp (IsValidNode l.valid n)
  IsValidNode-prop (Leaf a) = valid a
  IsValidNode-prop _ = hlevel props

  NodeFits-prop : (ns : List (SymbolicExpr A)) (n : SymbolicExpr A) → IsProp (NodeFits l ns n)
  NodeFits-prop ns n = hlevel (props, IsValidNode-prop n)

  WellFormed-prop : (ns : List (SymbolicExpr A)) → IsProp (WellFormed l ns)
  WellFormed-prop ns = hlevel (props, NodeFits-prop)

pub base_pool-prop : {F : Type 0} (p : BaseNodes F) → IsProp (IsPool base_reads p)
base_pool-prop p = hlevel (props, WellFormed-prop base_leaves (λ a. hlevel props) p.nodes)
