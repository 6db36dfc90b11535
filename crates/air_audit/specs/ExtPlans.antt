-- How the expressions of roots of both pools are made, one after another.
use Rattle.std.specs.Prelude.{◌≡◌, ◌≤◌, ◌<◌, ℕ, List, [], ◌∷◌, ◌++◌, length, slice_get, slice_index_or, All, Option, None, Some, ⊤}
use Rattle.air_field.specs.Extension.{Basis}
use Rattle.air_core.specs.declared.errors.AirError.{AirError}
use Rattle.air_core.specs.declared.errors.AirError.TheVariants.{RowOffset}
use Rattle.air_core.specs.declared.variables.ext_entry.ExtEntry.{ExtEntry}
use Rattle.air_core.specs.declared.variables.ext_entry.ExtEntry.TheVariants.{Permutation}
use Rattle.air_symbolic.specs.BaseLeaves.{base_leaves}
use Rattle.air_symbolic.specs.ExtLeaves.{ext_reads}
use Rattle.air_symbolic.specs.ExtPool.{ExtNodes}
use Rattle.air_symbolic.specs.Pools.{size}
use Rattle.air_symbolic.specs.Leaves.{Leaves}
use Rattle.air_symbolic.specs.Nodes.{IsNode}
use Rattle.air_symbolic.specs.Reach.{EachOperand, ReachedFrom}
use Rattle.air_symbolic.specs.declared.leaves.ext_leaf.ExtLeaf.{ExtLeaf}
use Rattle.air_symbolic.specs.declared.leaves.ext_leaf.ExtLeaf.TheVariants as leaf
use Rattle.air_symbolic.specs.declared.pools.expr.SymbolicExpr.{SymbolicExpr}
use Rattle.air_symbolic.specs.declared.pools.expr.SymbolicExpr.TheVariants as node
use Rattle.air_audit.specs.declared.flat.root.Root.{Root}
use Rattle.air_audit.specs.declared.flat.root.Root.TheVariants as root
use Rattle.air_audit.specs.declared.flat.step.Step.{Step}
use Rattle.air_audit.specs.Plans.{number_at, IsPlaceOf, IsUsed, IsPlan}

-- Each of n numbers has an entry in the table of places; the entry of each root is its place among the numbers.
pub record HaveRoots (count : ℕ) (numbers table roots : List ℕ) : Type 0 where
  pub long : length table ≡ count
  pub placed : All (λ i. IsPlaceOf numbers (length numbers) (slice_index_or table i 0) i) roots

-- The numbers that the roots need, in an order in which operands come before their results: the table has their places.
pub record IsOrder {A F : Type 0} (l : Leaves A F) (ns : List (SymbolicExpr A)) (roots numbers table : List ℕ) : Type 0 where
  pub here : (k : ℕ) → k < length numbers → number_at numbers k < length ns
  pub before : (k : ℕ) → k < length numbers → (n : SymbolicExpr A) → IsNode l ns (number_at numbers k) n
      → EachOperand (λ i. IsPlaceOf numbers k (slice_index_or table i 0) i) n
  pub rooted : HaveRoots (length ns) numbers table roots
  pub used : (k : ℕ) → k < length numbers → IsUsed ns roots numbers (number_at numbers k)

-- the roots of one kind, in order
abbrev pub base_ids : {F EF : Type 0} → List (Root F EF) → List ℕ
base_ids [] = []
base_ids (root.Base i ∷ rest) = i ∷ base_ids rest
base_ids (root.Extension i ∷ rest) = base_ids rest

abbrev pub ext_ids : {F EF : Type 0} → List (Root F EF) → List ℕ
ext_ids [] = []
ext_ids (root.Base i ∷ rest) = ext_ids rest
ext_ids (root.Extension i ∷ rest) = i ∷ ext_ids rest

-- the base expression that a node holds, if it holds one
abbrev pub lifted_of : {F EF : Type 0} → SymbolicExpr (ExtLeaf F EF) → List ℕ
lifted_of (node.Leaf (leaf.Base i)) = i ∷ []
lifted_of _ = []

abbrev pub lifted_at : {F EF : Type 0} → Option (SymbolicExpr (ExtLeaf F EF)) → List ℕ
lifted_at None = []
lifted_at (Some n) = lifted_of n

-- the base expressions that the nodes of these numbers hold, in order
abbrev pub lifted_ids : {F EF : Type 0} → List (SymbolicExpr (ExtLeaf F EF)) → List ℕ → List ℕ
lifted_ids ns [] = []
lifted_ids ns (k ∷ ks) = lifted_at (slice_get ns k) ++ lifted_ids ns ks

-- a window has the entry: a column of the permutation trace is that of row 0 or 1
abbrev pub IsOfExtWindow : ExtEntry → Type 0
IsOfExtWindow (Permutation o) = o ≤ 1
IsOfExtWindow _ = ⊤

-- a window has what the node names
abbrev pub NodeInWindow : {F EF : Type 0} → SymbolicExpr (ExtLeaf F EF) → Type 0
NodeInWindow (node.Leaf (leaf.ExtVariable v)) = IsOfExtWindow v.entry
NodeInWindow _ = ⊤

abbrev pub InWindow : {F EF : Type 0} → Option (SymbolicExpr (ExtLeaf F EF)) → Type 0
InWindow None = ⊤
InWindow (Some n) = NodeInWindow n

-- the refusal of a row of the permutation trace that no window has, by the entry and by the node that names it
abbrev pub RefusesEntry : ExtEntry → AirError → Type 0
RefusesEntry (Permutation o) e = (1 < o) × (e ≡ RowOffset o)
RefusesEntry _ e = ⊥

abbrev pub RefusesNode : {F EF : Type 0} → SymbolicExpr (ExtLeaf F EF) → AirError → Type 0
RefusesNode (node.Leaf (leaf.ExtVariable v)) e = RefusesEntry v.entry e
RefusesNode _ e = ⊥

abbrev pub RefusesAt : {F EF : Type 0} → Option (SymbolicExpr (ExtLeaf F EF)) → AirError → Type 0
RefusesAt None e = ⊥
RefusesAt (Some n) e = RefusesNode n e

-- the node of one of the numbers is refused
abbrev pub SomeRefuses : {F EF : Type 0} → List (SymbolicExpr (ExtLeaf F EF)) → List ℕ → AirError → Type 0
SomeRefuses ns numbers e = (k : ℕ) × (k < length numbers) × RefusesAt (slice_get ns (number_at numbers k)) e

-- The roots reach a column of the permutation trace on a row that no window has, and the refusal names its offset.
pub record ReachesFarRow {F EF : Type 0} (basis : Basis F EF) (p : ExtNodes F EF) (roots : List (Root F EF)) (e : AirError) : Type 0 where
  pub number : ℕ
  pub reached : ReachedFrom (ext_reads basis p.base) p.nodes (ext_ids roots) number
  pub far : RefusesAt (slice_get p.nodes number) e

-- what of the base pool is made: what the numbers' leaves hold, and the base roots
abbrev pub made_of_base : {F EF : Type 0} → ExtNodes F EF → List (Root F EF) → List ℕ → List ℕ
made_of_base p roots numbers = lifted_ids p.nodes numbers ++ base_ids roots

-- what a leaf holds of the base pool has its place among these numbers, and a window has what it names
abbrev pub LeafIsPlanned : {F EF : Type 0} → List ℕ → List ℕ → ExtLeaf F EF → Type 0
LeafIsPlanned numbers table (leaf.Base i) = (i < length table) × IsPlaceOf numbers (length numbers) (slice_index_or table i 0) i
LeafIsPlanned numbers table (leaf.ExtVariable v) = IsOfExtWindow v.entry
LeafIsPlanned numbers table (leaf.ExtConstant c) = ⊤

-- A plan of roots of both pools: an order of the numbers over the extension, whose entries a window has, and a plan of what
-- of the base pool they and the base roots need.
pub record IsExtPlan {F EF : Type 0} (basis : Basis F EF) (p : ExtNodes F EF) (roots : List (Root F EF)) (base_numbers : List ℕ) (base_steps : List Step)
    (base_places base_table numbers table : List ℕ) : Type 0 where
  pub order : IsOrder (ext_reads basis p.base) p.nodes (ext_ids roots) numbers table
  pub window : All (λ i. InWindow (slice_get p.nodes i)) numbers
  pub base : IsPlan base_leaves p.base.nodes (made_of_base p roots numbers) base_numbers base_steps base_places
  pub base_roots : HaveRoots (size p.base) base_numbers base_table (made_of_base p roots numbers)
