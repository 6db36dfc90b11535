-- The trees of extension expressions, where a Base leaf is replaced by its whole base tree.
use Rattle.std.specs.Prelude.{◌≡◌, ℕ, ◌⊎◌, ⊤, Option, None, Some, option_map, option_and_then}
use Rattle.air_field.specs.Extension.{Basis}
use Rattle.air_symbolic.specs.Trees.{Tree, leaf_tree, add_tree, sub_tree, neg_tree, mul_tree, both, term_of}
use Rattle.air_symbolic.specs.Pools.{tree_at, term_at, HasTree}
use Rattle.air_symbolic.specs.BaseLeaves.{base_reads}
use Rattle.air_symbolic.specs.ExtLeaves.{BaseNodes, ext_term}
use Rattle.air_symbolic.specs.ExtPool.{ExtNodes, ExtGrown}
use Rattle.air_symbolic.specs.declared.leaves.base_leaf.BaseLeaf.{BaseLeaf}
use Rattle.air_symbolic.specs.declared.leaves.ext_leaf.ExtLeaf.{ExtLeaf}
use Rattle.air_symbolic.specs.declared.leaves.ext_leaf.ExtLeaf.TheVariants.{Base, ExtVariable, ExtConstant}
use Rattle.air_core.specs.declared.variables.variable_ext.SymbolicVariableExt.{SymbolicVariableExt}

-- A leaf with the base tree in place of the base number.
pub data WholeLeaf (F EF : Type 0) : Type 0 where
  whole_base : Option (Tree (BaseLeaf F)) → WholeLeaf F EF
  whole_variable : SymbolicVariableExt F EF → WholeLeaf F EF
  whole_constant : EF → WholeLeaf F EF

abbrev pub whole_leaf : {F EF : Type 0} → BaseNodes F → ExtLeaf F EF → WholeLeaf F EF
whole_leaf u (Base i) = whole_base (tree_at u i)
whole_leaf u (ExtVariable v) = whole_variable v
whole_leaf u (ExtConstant c) = whole_constant c

-- the tree over such leaves
abbrev pub whole_tree : {F EF : Type 0} → BaseNodes F → Tree (ExtLeaf F EF) → Tree (WholeLeaf F EF)
whole_tree u (leaf_tree a) = leaf_tree (whole_leaf u a)
whole_tree u (add_tree t v) = add_tree (whole_tree u t) (whole_tree u v)
whole_tree u (sub_tree t v) = sub_tree (whole_tree u t) (whole_tree u v)
whole_tree u (neg_tree t) = neg_tree (whole_tree u t)
whole_tree u (mul_tree t v) = mul_tree (whole_tree u t) (whole_tree u v)

-- the tree of number i of an extension pool
abbrev pub whole_tree_at : {F EF : Type 0} → ExtNodes F EF → ℕ → Option (Tree (WholeLeaf F EF))
whole_tree_at p i = option_map (whole_tree p.base) (tree_at p i)

-- number i keeps its whole tree in every pool that p grows to
abbrev pub KeepsWholeTree : {F EF : Type 0} → Basis F EF → ExtNodes F EF → ℕ → Type 0
KeepsWholeTree {F = F} {EF = EF} basis p i =
    (q : ExtNodes F EF) → ExtGrown basis p q → whole_tree_at q i ≡ whole_tree_at p i

-- the leaf is extension-only
abbrev pub IsExtOnly : {F EF : Type 0} → ExtLeaf F EF → Type 0
IsExtOnly (Base i) = ⊥
IsExtOnly (ExtVariable v) = ⊤
IsExtOnly (ExtConstant c) = ⊤

-- the tree has an extension-only leaf
abbrev pub SomeExtOnly : {F EF : Type 0} → Tree (ExtLeaf F EF) → Type 0
SomeExtOnly (leaf_tree a) = IsExtOnly a
SomeExtOnly (add_tree t v) = SomeExtOnly t ⊎ SomeExtOnly v
SomeExtOnly (sub_tree t v) = SomeExtOnly t ⊎ SomeExtOnly v
SomeExtOnly (neg_tree t) = SomeExtOnly t
SomeExtOnly (mul_tree t v) = SomeExtOnly t ⊎ SomeExtOnly v

-- there is a tree, and it has an extension-only leaf
abbrev pub HasExtOnly : {F EF : Type 0} → Option (Tree (ExtLeaf F EF)) → Type 0
HasExtOnly (Some t) = SomeExtOnly t
HasExtOnly None = ⊥

-- The base tree with the same nodes, where Base leaves are replaced by their base trees; None if there is an
-- extension-only leaf.
abbrev pub lowered_leaf : {F EF : Type 0} → BaseNodes F → ExtLeaf F EF → Option (Tree (BaseLeaf F))
lowered_leaf u (Base i) = tree_at u i
lowered_leaf u (ExtVariable v) = None
lowered_leaf u (ExtConstant c) = None

abbrev pub lower_tree : {F EF : Type 0} → BaseNodes F → Tree (ExtLeaf F EF) → Option (Tree (BaseLeaf F))
lower_tree u (leaf_tree a) = lowered_leaf u a
lower_tree u (add_tree t v) = both add_tree (lower_tree u t) (lower_tree u v)
lower_tree u (sub_tree t v) = both sub_tree (lower_tree u t) (lower_tree u v)
lower_tree u (neg_tree t) = option_map neg_tree (lower_tree u t)
lower_tree u (mul_tree t v) = both mul_tree (lower_tree u t) (lower_tree u v)

abbrev pub lower : {F EF : Type 0} → BaseNodes F → Option (Tree (ExtLeaf F EF)) → Option (Tree (BaseLeaf F))
lower u t = option_and_then (lower_tree u) t

-- number b of the base pool u is the tree t lowered over old, and t has no extension-only leaf
pub record IsLowered {F EF : Type 0} (old u : BaseNodes F) (t : Option (Tree (ExtLeaf F EF))) (b : ℕ) : Type 0 where
  pub base_only : HasExtOnly t → ⊥
  pub tree : HasTree u (lower old t) b

-- number b of the base pool u has the term of number i of the extension pool p
abbrev pub HasTermOf : {F EF : Type 0} → Basis F EF → ExtNodes F EF → ℕ → BaseNodes F → ℕ → Type 0
HasTermOf basis p i u b = term_at base_reads u b ≡ term_of (ext_term basis p.base) (tree_at p i)
