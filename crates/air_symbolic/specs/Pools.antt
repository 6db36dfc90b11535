-- Pools of expressions, and the trees and terms of their numbers.
use Rattle.std.specs.Prelude.{◌≡◌, ℕ, ◌<◌, List, ◌++◌, length, Option, Some}
use Rattle.air_field.specs.Ring.{CommRing}
use Rattle.air_field.specs.Term.{Term}
use Rattle.air_field.specs.Same.{Simplifies}
use Rattle.air_symbolic.specs.Leaves.{Leaves, IsConstLeaf}
use Rattle.air_symbolic.specs.Trees.{Tree, leaf_tree, term_of, tree_constant}
use Rattle.air_symbolic.specs.Nodes.{tree_of, WellFormed}
use Rattle.air_symbolic.specs.declared.pools.expr.SymbolicExpr.{SymbolicExpr}

-- A pool, as contracts see it: its base and its nodes. Number i is the i-th node.
pub record Pool (U A : Type 0) : Type 0 where
  pub base : U
  pub nodes : List (SymbolicExpr A)

-- the number of nodes: the numbers below it are the pool's
abbrev pub size : {U A : Type 0} → Pool U A → ℕ
size p = length p.nodes

-- the same nodes on another base
abbrev pub on_base : {U A : Type 0} → Pool U A → U → Pool U A
on_base p u = record { base = u; nodes = p.nodes }

-- The base is sound, each node fits those before it, and no node occurs twice.
pub record IsPool {U A F : Type 0} (reads : U → Leaves A F) (p : Pool U A) : Type 0 where
  pub base : (reads p.base).sound
  pub nodes : WellFormed (reads p.base) p.nodes

-- The invariant of a pool's type: over some base the nodes make a pool.
pub record IsNodeList {U A F : Type 0} (reads : U → Leaves A F) (nodes : List (SymbolicExpr A)) : Type 0 where
  pub base : U
  pub pool : IsPool reads (record { base = base; nodes = nodes })

-- The nodes fit the pool's base, if they fit any. Callers must promise this, since an extension pool's base may have
-- been borrowed. A base pool has an empty base, so it always holds there.
abbrev pub FitsBase : {U A F : Type 0} → (U → Leaves A F) → Pool U A → Type 0
FitsBase {U = U} reads p = (u : U) → IsPool reads (on_base p u) → IsPool reads p

-- the tree of number i, if the pool has this number
abbrev pub tree_at : {U A : Type 0} → Pool U A → ℕ → Option (Tree A)
tree_at p i = tree_of p.nodes i

-- the term of number i
abbrev pub term_at : {U A F : Type 0} → (U → Leaves A F) → Pool U A → ℕ → Term F
term_at reads p i = term_of (reads p.base).term (tree_of p.nodes i)

-- the constant that number i equals, if it is one
abbrev pub constant_at : {U A F : Type 0} → (U → Leaves A F) → Pool U A → ℕ → Option F
constant_at reads p i = tree_constant (reads p.base).constant (tree_of p.nodes i)

-- q is p with further nodes, on a base that has grown; q is a pool if p is
pub record Grown {U A F : Type 0} (grows : U → U → Type 0) (reads : U → Leaves A F) (p q : Pool U A) : Type 0 where
  pub base : grows p.base q.base
  pub nodes : (more : List (SymbolicExpr A)) × (q.nodes ≡ p.nodes ++ more)
  pub pool : IsPool reads p → IsPool reads q

-- number i keeps its tree and its term in every pool that p grows to
pub record KeepsTree {U A F : Type 0} (grows : U → U → Type 0) (reads : U → Leaves A F) (p : Pool U A) (i : ℕ) : Type 0 where
  pub tree : (q : Pool U A) → Grown grows reads p q → tree_at q i ≡ tree_at p i
  pub term : (q : Pool U A) → Grown grows reads p q → term_at reads q i ≡ term_at reads p i

-- number i is in the pool
pub record PoolHas {U A F : Type 0} (reads : U → Leaves A F) (p : Pool U A) (i : ℕ) : Type 0 where
  pub pool : IsPool reads p
  pub here : i < size p

-- number i means the term t: its own term simplifies t
pub record PoolMeans {U A F : Type 0} (reads : U → Leaves A F) (r : CommRing F) (p : Pool U A) (i : ℕ) (t : Term F) : Type 0 where
  pub pool : IsPool reads p
  pub here : i < size p
  pub simplifies : Simplifies r (term_at reads p i) t

-- number i has the tree t
pub record HasTree {U A : Type 0} (p : Pool U A) (t : Option (Tree A)) (i : ℕ) : Type 0 where
  pub here : i < size p
  pub tree : tree_at p i ≡ t

-- the tree is the constant c, as a base constant
abbrev pub IsConst : {A F : Type 0} → Leaves A F → F → Option (Tree A) → Type 0
IsConst {A = A} l c t = (a : A) × (t ≡ Some (leaf_tree a)) × IsConstLeaf l c a

-- number i is the constant c, as a base constant
pub record HasConst {U A F : Type 0} (reads : U → Leaves A F) (p : Pool U A) (c : F) (i : ℕ) : Type 0 where
  pub here : i < size p
  pub constant : IsConst (reads p.base) c (tree_at p i)
