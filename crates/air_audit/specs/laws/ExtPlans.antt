-- That a plan is one of roots of both pools has at most one proof.
use Rattle.std.specs.Prelude.{ℕ, List, Option, None, Some}
use Rattle.std.proofs.Props.{props}
use Rattle.air_field.specs.Extension.{Basis}
use Rattle.air_core.specs.declared.variables.ext_entry.ExtEntry.{ExtEntry}
use Rattle.air_core.specs.declared.variables.ext_entry.ExtEntry.TheVariants.{Permutation, Challenge, PermutationValue}
use Rattle.air_symbolic.specs.BaseLeaves.{base_leaves}
use Rattle.air_symbolic.specs.ExtLeaves.{ext_reads}
use Rattle.air_symbolic.specs.ExtPool.{ExtNodes}
use Rattle.air_symbolic.specs.Leaves.{Leaves}
use Rattle.air_symbolic.specs.declared.leaves.ext_leaf.ExtLeaf.{ExtLeaf}
use Rattle.air_symbolic.specs.declared.leaves.ext_leaf.ExtLeaf.TheVariants as leaf
use Rattle.air_symbolic.specs.declared.pools.expr.SymbolicExpr.{SymbolicExpr}
use Rattle.air_symbolic.specs.declared.pools.expr.SymbolicExpr.TheVariants as node
use Rattle.air_audit.specs.declared.flat.root.Root.{Root}
use Rattle.air_audit.specs.declared.flat.step.Step.{Step}
use Rattle.air_audit.specs.ExtPlans.{IsOfExtWindow, NodeInWindow, InWindow, IsOrder, IsExtPlan}
use Rattle.air_audit.specs.laws.Plans.{IsPlan-prop}

IsOrder-prop : {A F : Type 0} (l : Leaves A F) (ns : List (SymbolicExpr A)) (roots numbers table : List ℕ) → IsProp (IsOrder l ns roots numbers table)
IsOrder-prop l ns roots numbers table = hlevel props

entry-prop : (e : ExtEntry) → IsProp (IsOfExtWindow e)
entry-prop (Permutation o) = hlevel props
entry-prop Challenge = hlevel props
entry-prop PermutationValue = hlevel props

node-prop : {F EF : Type 0} (n : SymbolicExpr (ExtLeaf F EF)) → IsProp (NodeInWindow n)
node-prop (node.Leaf (leaf.Base i)) = hlevel props
node-prop (node.Leaf (leaf.ExtVariable v)) = entry-prop v.entry
node-prop (node.Leaf (leaf.ExtConstant c)) = hlevel props
node-prop _ = hlevel props

window-prop : {F EF : Type 0} (o : Option (SymbolicExpr (ExtLeaf F EF))) → IsProp (InWindow o)
window-prop None = hlevel props
window-prop (Some n) = node-prop n

pub IsExtPlan-prop : {F EF : Type 0} (basis : Basis F EF) (p : ExtNodes F EF) (roots : List (Root F EF)) (base_numbers : List ℕ) (base_steps : List Step)
    (base_places base_table numbers table : List ℕ) → IsProp (IsExtPlan basis p roots base_numbers base_steps base_places base_table numbers table)
IsExtPlan-prop {F = F} {EF = EF} basis p roots base_numbers base_steps base_places base_table numbers table =
    hlevel (props, IsOrder-prop (ext_reads basis p.base), window-prop {F = F} {EF = EF}, IsPlan-prop (base_leaves {F = F}))
