-- Expressions without sharing, over some kind of leaves. A number has a tree only if the pool has a node with that
-- number, so statements about numbers use `Option (Tree A)`.
use Rattle.std.specs.Prelude.{Option, None, Some, []}
use Rattle.air_field.specs.Term.{Term, ext_const_term, add_term, sub_term, neg_term, mul_term}

pub data Tree (A : Type 0) : Type 0 where
  leaf_tree : A → Tree A
  add_tree : Tree A → Tree A → Tree A
  sub_tree : Tree A → Tree A → Tree A
  neg_tree : Tree A → Tree A
  mul_tree : Tree A → Tree A → Tree A

-- the tree over two trees, if there are both
abbrev pub both : {A : Type 0} → (Tree A → Tree A → Tree A) → Option (Tree A) → Option (Tree A) → Option (Tree A)
both node (Some t) (Some u) = Some (node t u)
both node (Some t) None = None
both node None u = None

-- the term of a tree
abbrev pub tree_term : {A F : Type 0} → (A → Term F) → Tree A → Term F
tree_term f (leaf_tree a) = f a
tree_term f (add_tree t u) = add_term (tree_term f t) (tree_term f u)
tree_term f (sub_tree t u) = sub_term (tree_term f t) (tree_term f u)
tree_term f (neg_tree t) = neg_term (tree_term f t)
tree_term f (mul_tree t u) = mul_term (tree_term f t) (tree_term f u)

-- the term of the tree, zero for None
abbrev pub term_of : {A F : Type 0} → (A → Term F) → Option (Tree A) → Term F
term_of f (Some t) = tree_term f t
term_of f None = ext_const_term []

-- the constant that the tree equals, if it is one
abbrev pub tree_constant : {A F : Type 0} → (A → Option F) → Option (Tree A) → Option F
tree_constant f (Some (leaf_tree a)) = f a
tree_constant f _ = None

-- each leaf of the tree is valid
abbrev pub AllValid : {A : Type 0} → (A → Type 0) → Tree A → Type 0
AllValid valid (leaf_tree a) = valid a
AllValid valid (add_tree t u) = AllValid valid t × AllValid valid u
AllValid valid (sub_tree t u) = AllValid valid t × AllValid valid u
AllValid valid (neg_tree t) = AllValid valid t
AllValid valid (mul_tree t u) = AllValid valid t × AllValid valid u

-- there is a tree, and each of its leaves is valid
abbrev pub IsValidTree : {A : Type 0} → (A → Type 0) → Option (Tree A) → Type 0
IsValidTree valid (Some t) = AllValid valid t
IsValidTree valid None = ⊥
