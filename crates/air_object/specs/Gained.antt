-- The pool of an object's constraints: it has the tree of each node once, in the order in which they occur first.
use Rattle.std.specs.Prelude.{◌≡◌, ℕ, ◌<◌, List, [], map, flat_map, All, Option, Some, codes}
use Rattle.serde_json.specs.Data.{Data, Items}
use Rattle.serde_json.specs.Find.{get, as_array}
use Rattle.air_field.specs.Modular.{Modular}
use Rattle.air_symbolic.specs.BaseLeaves.{base_reads}
use Rattle.air_symbolic.specs.ExtLeaves.{BaseNodes}
use Rattle.air_symbolic.specs.Numbered.{trees_in, GainsEach}
use Rattle.air_symbolic.specs.Pools.{IsPool, tree_at, size}
use Rattle.air_symbolic.specs.Trees.{Tree}
use Rattle.air_symbolic.specs.declared.leaves.base_leaf.BaseLeaf.{BaseLeaf}
use Rattle.air_json.specs.BaseLeaves.{base_kind}
use Rattle.air_json.specs.NodeLists.{AreNodes}
use Rattle.air_object.specs.Members.{constraints}
use Rattle.air_object.specs.Objects.{Grammar, by_form, AllSpell}

-- the trees of a pool's numbers, in order
abbrev pub PoolTrees : Type 0 → Type 0
PoolTrees F = List (Option (Tree (BaseLeaf F)))

-- the trees of all nodes of a list, in order
abbrev pub nodes_of : {F : Type 0} {p : ℕ} → Modular F p → Grammar (List (Tree (BaseLeaf F)))
nodes_of m = by_form (λ d ts. (ds : Items) × (as_array d ≡ Some ds) × AreNodes (base_kind m) [] ds ts)

-- Each of the values ds is a list of nodes. The trees `after` are the trees `before`, and then those of the lists' nodes
-- that aren't in `before`, each once, in the order in which they occur first.
pub record GainsLists {F : Type 0} {p : ℕ} (m : Modular F p) (ds : Items) (before after : PoolTrees F) : Type 0 where
  pub lists : List (List (Tree (BaseLeaf F)))
  pub spelt : AllSpell (nodes_of m) ds lists
  pub gained : GainsEach before (map Some (flat_map (λ ts. ts) lists)) after

-- `GainsLists` for an array of lists
abbrev pub GainsArray : {F : Type 0} {p : ℕ} → Modular F p → Data → PoolTrees F → PoolTrees F → Type 0
GainsArray m d before after = (ds : Items) × (as_array d ≡ Some ds) × GainsLists m ds before after

-- there is such an array, and these are the trees of its lists' nodes
abbrev pub GainsFound : {F : Type 0} {p : ℕ} → Modular F p → Option Data → PoolTrees F → Type 0
GainsFound m o trees = (d : Data) × (o ≡ Some d) × GainsArray m d [] trees

-- `GainsFound` for the object's member `constraints`
abbrev pub GainsMember : {F : Type 0} {p : ℕ} → Modular F p → Data → PoolTrees F → Type 0
GainsMember m d trees = GainsFound m (get (codes "constraints") d) trees

-- The pool of the object d: it has the tree of each node of the member `constraints` once, in the order in which they
-- occur first, and no other trees. The roots are the numbers of the constraints' trees.
pub record AreRootsOf {F : Type 0} {p : ℕ} (m : Modular F p) (d : Data) (pool : BaseNodes F) (roots : List ℕ) : Type 0 where
  pub is_pool : IsPool base_reads pool
  pub gained : GainsMember m d (trees_in pool)
  pub here : All (λ i. i < size pool) roots
  pub trees : (constraints m).spells d (map (tree_at pool) roots)
