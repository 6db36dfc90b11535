-- Trees of extension expressions are equal if their whole trees are.
use Rattle.std.proofs.Common.{◌≡◌, ℕ, ap, refl, Option, Some, None}
use Rattle.std.specs.Prelude.{option_map}
use Rattle.air_field.specs.Ring.{CommRing}
use Rattle.air_symbolic.specs.laws.Pools.{tree-kept}
use Rattle.air_symbolic.specs.Trees.{Tree, leaf_tree, add_tree, sub_tree, neg_tree, mul_tree, AllValid, IsValidTree}
use Rattle.air_symbolic.specs.Pools.{tree_at}
use Rattle.air_symbolic.specs.BaseLeaves.{base_leaves, base_reads, base_grows}
use Rattle.air_symbolic.specs.laws.BaseLeaves.{base_leaf_laws}
use Rattle.air_symbolic.specs.ExtLeaves.{BaseNodes, ext_valid, ext_grows}
use Rattle.air_symbolic.specs.ExtTrees.{whole_leaf, whole_base, whole_tree}
use Rattle.air_symbolic.specs.laws.Sharing.{shared}
use Rattle.air_symbolic.specs.declared.leaves.ext_leaf.ExtLeaf.{ExtLeaf}
use Rattle.air_symbolic.specs.declared.leaves.ext_leaf.ExtLeaf.TheVariants.{Base, ExtVariable, ExtConstant}

module _ {F EF : Type 0} (u : BaseNodes F) where
  pub same_leaf : (a b : ExtLeaf F EF) → ext_valid u a → ext_valid u b → whole_leaf u a ≡ whole_leaf u b → a ≡ b
  same_leaf (Base i) (Base j) h k e =
      let t : tree_at u i ≡ tree_at u j = cc in
      ap (λ (n : ℕ). Base n) (shared base_leaves u.nodes h.pool.nodes i j h.here k.here t)
  same_leaf (ExtVariable v) (ExtVariable w) h k e = cc
  same_leaf (ExtConstant c) (ExtConstant d) h k e = cc
  same_leaf _ _ h k e = absurd (cc)

  same_tree : (t v : Tree (ExtLeaf F EF)) → AllValid (ext_valid u) t → AllValid (ext_valid u) v → whole_tree u t ≡ whole_tree u v → t ≡ v
  same_tree (leaf_tree a) (leaf_tree b) h k e =
      let l : whole_leaf u a ≡ whole_leaf u b = cc in
      ap (λ (x : ExtLeaf F EF). leaf_tree x) (same_leaf a b h k l)
  same_tree (add_tree t v) (add_tree x y) h k e =
      let p : t ≡ x = same_tree t x h.0 k.0 (cc) in let q : v ≡ y = same_tree v y h.1 k.1 (cc) in cc
  same_tree (sub_tree t v) (sub_tree x y) h k e =
      let p : t ≡ x = same_tree t x h.0 k.0 (cc) in let q : v ≡ y = same_tree v y h.1 k.1 (cc) in cc
  same_tree (neg_tree t) (neg_tree x) h k e =
      let p : t ≡ x = same_tree t x h k (cc) in cc
  same_tree (mul_tree t v) (mul_tree x y) h k e =
      let p : t ≡ x = same_tree t x h.0 k.0 (cc) in let q : v ≡ y = same_tree v y h.1 k.1 (cc) in cc
  same_tree _ _ h k e = absurd (cc)

  pub same_whole_tree : (t v : Option (Tree (ExtLeaf F EF))) → IsValidTree (ext_valid u) t → IsValidTree (ext_valid u) v → option_map (whole_tree u) t ≡ option_map (whole_tree u) v → t ≡ v
  same_whole_tree (Some t) (Some v) h k e = let whole : whole_tree u t ≡ whole_tree u v = cc in ap (λ (x : Tree (ExtLeaf F EF)). Some x) (same_tree t v h k whole)
  same_whole_tree (Some t) None h k e = absurd k
  same_whole_tree None v h k e = absurd h

-- A whole tree stays as the base pool grows.
module _ {F EF : Type 0} (r : CommRing F) (u v : BaseNodes F) (g : ext_grows u v) where
  tree-kept-whole : (t : Tree (ExtLeaf F EF)) → AllValid (ext_valid u) t → whole_tree v t ≡ whole_tree u t
  tree-kept-whole (leaf_tree (Base i)) h =
      ap (λ k. leaf_tree (whole_base k)) (tree-kept r base_reads base_grows tt (base_leaf_laws r) u v i g h.here)
  tree-kept-whole (leaf_tree (ExtVariable x)) h = refl
  tree-kept-whole (leaf_tree (ExtConstant c)) h = refl
  tree-kept-whole (add_tree t x) h = cc (tree-kept-whole t h.0, tree-kept-whole x h.1)
  tree-kept-whole (sub_tree t x) h = cc (tree-kept-whole t h.0, tree-kept-whole x h.1)
  tree-kept-whole (neg_tree t) h = cc (tree-kept-whole t h)
  tree-kept-whole (mul_tree t x) h = cc (tree-kept-whole t h.0, tree-kept-whole x h.1)

  pub whole_tree-kept : (t : Option (Tree (ExtLeaf F EF))) → IsValidTree (ext_valid u) t → option_map (whole_tree v) t ≡ option_map (whole_tree u) t
  whole_tree-kept (Some t) h = ap (λ x. Some x) (tree-kept-whole t h)
  whole_tree-kept None h = refl
