-- Base numbers for the numbers of an extension pool.
use Rattle.std.specs.Prelude.{◌≡◌, ℕ, ◌<◌, List, slice_get, slice_index_or, Option, None, Some}
use Rattle.air_symbolic.specs.Trees.{Tree, leaf_tree}
use Rattle.air_symbolic.specs.Nodes.{unfold_node, tree_of, NodeFits}
use Rattle.air_symbolic.specs.Pools.{tree_at, HasTree, size}
use Rattle.air_symbolic.specs.BaseLeaves.{base_leaves}
use Rattle.air_symbolic.specs.ExtPool.{ExtNodes}
use Rattle.air_symbolic.specs.ExtTrees.{IsExtOnly, HasExtOnly, lower}
use Rattle.air_symbolic.specs.Reach.{EachOperand}
use Rattle.air_symbolic.specs.declared.pools.expr.SymbolicExpr.{SymbolicExpr}
use Rattle.air_symbolic.specs.declared.leaves.ext_leaf.ExtLeaf.{ExtLeaf}
use Rattle.air_symbolic.specs.declared.pools.lower.Counterpart.{Counterpart}
use Rattle.air_symbolic.specs.declared.pools.lower.Counterpart.TheVariants.{Number, Node}

-- the tree is an extension-only leaf
abbrev pub IsExtOnlyLeaf : {F EF : Type 0} → Option (Tree (ExtLeaf F EF)) → Type 0
IsExtOnlyLeaf (Some (leaf_tree a)) = IsExtOnly a
IsExtOnlyLeaf _ = ⊥

-- there is a marked number, and its tree is an extension-only leaf
abbrev pub IsMarkedExtOnly : {F EF : Type 0} → ExtNodes F EF → Option ℕ → Type 0
IsMarkedExtOnly p None = ⊥
IsMarkedExtOnly p (Some i) = IsExtOnlyLeaf (tree_at p i)

-- there is a base number, and in q it has the lowered tree of number i of p
abbrev pub IsLoweredIn : {F EF : Type 0} → ExtNodes F EF → ExtNodes F EF → ℕ → Option ℕ → Type 0
IsLoweredIn p q i o = (b : ℕ) × (o ≡ Some b) × HasTree q.base (lower p.base (tree_at p i)) b

-- entry i of the table is a base number with the lowered tree of number i
abbrev pub LoweredAt : {F EF : Type 0} → ExtNodes F EF → List (Option ℕ) → ℕ → Type 0
LoweredAt p table i = IsLoweredIn p p i (slice_index_or table i None)

-- what number i of p is in the base pool: a number, or a node that fits, with the lowered tree
abbrev pub IsCounterpart : {F EF : Type 0} → ExtNodes F EF → ℕ → Counterpart F → Type 0
IsCounterpart p i (Number b) = HasTree p.base (lower p.base (tree_at p i)) b
IsCounterpart p i (Node n) = NodeFits base_leaves p.base.nodes n × (unfold_node (tree_of p.base.nodes) n ≡ lower p.base (tree_at p i))

-- Number i can be lowered: its tree has no extension-only leaf, and the table has its operands lowered.
pub record CanLower {F EF : Type 0} (p : ExtNodes F EF) (table : List (Option ℕ)) (i : ℕ) : Type 0 where
  pub here : i < size p
  pub base_only : HasExtOnly (tree_at p i) → ⊥
  pub operands : (n : SymbolicExpr (ExtLeaf F EF)) → slice_get p.nodes i ≡ Some n → EachOperand (LoweredAt p table) n
