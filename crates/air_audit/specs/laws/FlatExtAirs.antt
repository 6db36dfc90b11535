-- That roots are in a pool and in its base pool has at most one proof.
use Rattle.std.specs.Prelude.{List}
use Rattle.std.proofs.Props.{props}
use Rattle.air_field.specs.Extension.{Basis}
use Rattle.air_symbolic.specs.ExtLeaves.{BaseNodes, ext_reads, ext_valid}
use Rattle.air_symbolic.specs.ExtPool.{ExtNodes}
use Rattle.air_symbolic.specs.Nodes.{IsValidNode}
use Rattle.air_symbolic.specs.Pools.{IsPool}
use Rattle.air_symbolic.specs.laws.OnePool.{base_pool-prop}
use Rattle.air_symbolic.specs.declared.leaves.ext_leaf.ExtLeaf.{ExtLeaf}
use Rattle.air_symbolic.specs.declared.leaves.ext_leaf.ExtLeaf.TheVariants as leaf
use Rattle.air_symbolic.specs.declared.pools.expr.SymbolicExpr.{SymbolicExpr}
use Rattle.air_symbolic.specs.declared.pools.expr.SymbolicExpr.TheVariants as node
use Rattle.air_audit.specs.declared.flat.root.Root.{Root}
use Rattle.air_audit.specs.declared.flat.root.Root.TheVariants as root
use Rattle.air_audit.specs.FlatExtAirs.{RootHere, ExtRootsIn}

module _ {F EF : Type 0} (basis : Basis F EF) where
  valid-prop : (u : BaseNodes F) (a : ExtLeaf F EF) → IsProp (ext_valid u a)
  valid-prop u (leaf.Base i) = hlevel (props, base_pool-prop u)
  valid-prop u (leaf.ExtVariable v) = hlevel props
  valid-prop u (leaf.ExtConstant c) = hlevel props

  node-prop : (u : BaseNodes F) (n : SymbolicExpr (ExtLeaf F EF)) → IsProp (IsValidNode (ext_valid u) n)
  node-prop u (node.Leaf a) = valid-prop u a
  node-prop u _ = hlevel props

  here-prop : (p : ExtNodes F EF) (r : Root F EF) → IsProp (RootHere p r)
  here-prop p (root.Base i) = hlevel props
  here-prop p (root.Extension i) = hlevel props

  pool-prop : (p : ExtNodes F EF) → IsProp (IsPool (ext_reads basis) p)
  pool-prop p = hlevel (props, base_pool-prop p.base, node-prop p.base)

  pub ExtRootsIn-prop : (p : ExtNodes F EF) (roots : List (Root F EF)) → IsProp (ExtRootsIn basis p roots)
  ExtRootsIn-prop p roots = hlevel (props, pool-prop p, here-prop p)
