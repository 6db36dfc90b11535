-- Lowering a tree without extension-only leaves to a base tree.
use Rattle.std.proofs.Common.{◌≡◌, ℕ, ◌+◌, ◌<◌, max, List, [], ◌∷◌, length, get_or, All, Contains, refl, sym, ap, ap₂, ◌∙◌, inl, inr, ◌⊎◌, ⊎_elim, Option, Some, None, subst, arith}
use Rattle.std.proofs.lemmas.List.Elements.{All-contains}
use Rattle.std.specs.Prelude.{option_map}
use Rattle.air_field.specs.Degree.{degree_by, cached_weight}
use Rattle.air_field.specs.Ring.{CommRing}
use Rattle.air_field.specs.Term.{Term, add_term, sub_term, neg_term, mul_term}
use Rattle.air_field.specs.Extension.{Basis}
use Rattle.air_symbolic.specs.Trees.{Tree, leaf_tree, add_tree, sub_tree, neg_tree, mul_tree, both, tree_term, term_of, AllValid, IsValidTree}
use Rattle.air_symbolic.specs.Pools.{HasTree, tree_at, IsPool}
use Rattle.air_symbolic.specs.BaseLeaves.{base_term, base_leaves, base_reads, base_grows}
use Rattle.air_symbolic.specs.laws.BaseLeaves.{base_leaf_laws}
use Rattle.air_symbolic.specs.laws.Pools.{tree-kept, here-kept}
use Rattle.air_symbolic.specs.Leaves.{Leaves}
use Rattle.air_symbolic.specs.Nodes.{unfold_node, tree_of, cached_degree, operands, OperandsBelow, NodeFits, WellFormed, IsNode}
use Rattle.air_symbolic.specs.laws.Nodes.{of_one, of_two, no_operand, the_operand, one_of_two}
use Rattle.air_symbolic.specs.laws.Numbers.{tree_of-valid, both-valid, both-term, negative-valid, negative-term}
use Rattle.air_symbolic.specs.ExtLeaves.{BaseNodes, ext_valid, ext_grows, ext_term, ext_reads}
use Rattle.air_symbolic.specs.ExtPool.{ExtNodes}
use Rattle.air_symbolic.specs.Reach.{EachOperand, IsOperand}
use Rattle.air_symbolic.specs.Lowered.{IsLoweredIn, LoweredAt, IsCounterpart, CanLower}
use Rattle.air_symbolic.specs.declared.pools.lower.Counterpart.TheVariants.{Node}
use Rattle.air_symbolic.specs.declared.pools.expr.SymbolicExpr.{SymbolicExpr}
use Rattle.air_symbolic.specs.declared.pools.expr.SymbolicExpr.TheVariants.{Leaf, Add, Sub, Neg, Mul}
use Rattle.air_symbolic.specs.ExtTrees.{SomeExtOnly, HasExtOnly, lower_tree, lower, HasTermOf}
use Rattle.air_symbolic.specs.declared.leaves.base_leaf.BaseLeaf.{BaseLeaf}
use Rattle.air_symbolic.specs.declared.leaves.ext_leaf.ExtLeaf.{ExtLeaf}
use Rattle.air_symbolic.specs.declared.leaves.ext_leaf.ExtLeaf.TheVariants.{Base, ExtVariable, ExtConstant}

module _ {F EF : Type 0} (r : CommRing F) where
  -- the lowered tree stays as the base pool grows
  lowered_tree-kept : (u v : BaseNodes F) → ext_grows u v → (t : Tree (ExtLeaf F EF)) → AllValid (ext_valid u) t → lower_tree v t ≡ lower_tree u t
  lowered_tree-kept u v g (leaf_tree (Base i)) h = tree-kept r base_reads base_grows tt (base_leaf_laws r) u v i g h.here
  lowered_tree-kept u v g (leaf_tree (ExtVariable x)) h = refl
  lowered_tree-kept u v g (leaf_tree (ExtConstant c)) h = refl
  lowered_tree-kept u v g (add_tree t x) h = ap₂ (both add_tree) (lowered_tree-kept u v g t h.0) (lowered_tree-kept u v g x h.1)
  lowered_tree-kept u v g (sub_tree t x) h = ap₂ (both sub_tree) (lowered_tree-kept u v g t h.0) (lowered_tree-kept u v g x h.1)
  lowered_tree-kept u v g (neg_tree t) h = ap (option_map neg_tree) (lowered_tree-kept u v g t h)
  lowered_tree-kept u v g (mul_tree t x) h = ap₂ (both mul_tree) (lowered_tree-kept u v g t h.0) (lowered_tree-kept u v g x h.1)

  pub lowered-kept : (u v : BaseNodes F) → ext_grows u v → (t : Option (Tree (ExtLeaf F EF))) → IsValidTree (ext_valid u) t → lower v t ≡ lower u t
  lowered-kept u v g (Some t) h = lowered_tree-kept u v g t h
  lowered-kept u v g None h = refl

  -- there is one if no extension-only leaf occurs
  lowered-valid : (u : BaseNodes F) (t : Tree (ExtLeaf F EF)) → AllValid (ext_valid u) t → (SomeExtOnly t → ⊥) → IsValidTree base_leaves.valid (lower_tree u t)
  lowered-valid u (leaf_tree (Base i)) h n = tree_of-valid base_leaves u.nodes h.pool.nodes i h.here
  lowered-valid u (leaf_tree (ExtVariable x)) h n = absurd (n tt)
  lowered-valid u (leaf_tree (ExtConstant c)) h n = absurd (n tt)
  lowered-valid u (add_tree t x) h n = both-valid base_leaves.valid add_tree (λ _ _ p q. (p, q)) (lower_tree u t) (lower_tree u x) (lowered-valid u t h.0 (λ e. n (inl e))) (lowered-valid u x h.1 (λ e. n (inr e)))
  lowered-valid u (sub_tree t x) h n = both-valid base_leaves.valid sub_tree (λ _ _ p q. (p, q)) (lower_tree u t) (lower_tree u x) (lowered-valid u t h.0 (λ e. n (inl e))) (lowered-valid u x h.1 (λ e. n (inr e)))
  lowered-valid u (neg_tree t) h n = negative-valid base_leaves.valid (lower_tree u t) (lowered-valid u t h n)
  lowered-valid u (mul_tree t x) h n = both-valid base_leaves.valid mul_tree (λ _ _ p q. (p, q)) (lower_tree u t) (lower_tree u x) (lowered-valid u t h.0 (λ e. n (inl e))) (lowered-valid u x h.1 (λ e. n (inr e)))

  -- and it has the tree's term
  module _ (basis : Basis F EF) (u : BaseNodes F) where
    lowered_two-term : (node : Tree (BaseLeaf F) → Tree (BaseLeaf F) → Tree (BaseLeaf F)) (term : Term F → Term F → Term F)
        → ((t x : Tree (BaseLeaf F)) → tree_term base_term (node t x) ≡ term (tree_term base_term t) (tree_term base_term x)) → (t x : Tree (ExtLeaf F EF))
        → AllValid (ext_valid u) t × AllValid (ext_valid u) x → (SomeExtOnly t ⊎ SomeExtOnly x → ⊥)
        → term_of base_term (lower_tree u t) ≡ tree_term (ext_term basis u) t → term_of base_term (lower_tree u x) ≡ tree_term (ext_term basis u) x
        → term_of base_term (both node (lower_tree u t) (lower_tree u x)) ≡ term (tree_term (ext_term basis u) t) (tree_term (ext_term basis u) x)
    lowered_two-term node term is t x h n left right =
        both-term base_leaves.valid base_term node term is (lower_tree u t) (lower_tree u x) (lowered-valid u t h.0 (λ e. n (inl e))) (lowered-valid u x h.1 (λ e. n (inr e)))
        ∙ ap₂ term left right

    lowered_tree-term : (t : Tree (ExtLeaf F EF)) → AllValid (ext_valid u) t → (SomeExtOnly t → ⊥) → term_of base_term (lower_tree u t) ≡ tree_term (ext_term basis u) t
    lowered_tree-term (leaf_tree (Base i)) h n = refl
    lowered_tree-term (leaf_tree (ExtVariable x)) h n = absurd (n tt)
    lowered_tree-term (leaf_tree (ExtConstant c)) h n = absurd (n tt)
    lowered_tree-term (add_tree t x) h n = lowered_two-term add_tree add_term (λ _ _. refl) t x h n (lowered_tree-term t h.0 (λ e. n (inl e))) (lowered_tree-term x h.1 (λ e. n (inr e)))
    lowered_tree-term (sub_tree t x) h n = lowered_two-term sub_tree sub_term (λ _ _. refl) t x h n (lowered_tree-term t h.0 (λ e. n (inl e))) (lowered_tree-term x h.1 (λ e. n (inr e)))
    lowered_tree-term (neg_tree t) h n = negative-term base_leaves.valid base_term (lower_tree u t) (lowered-valid u t h n) ∙ ap (λ v. neg_term v) (lowered_tree-term t h n)
    lowered_tree-term (mul_tree t x) h n = lowered_two-term mul_tree mul_term (λ _ _. refl) t x h n (lowered_tree-term t h.0 (λ e. n (inl e))) (lowered_tree-term x h.1 (λ e. n (inr e)))

    pub lowered-term : (t : Option (Tree (ExtLeaf F EF))) → IsValidTree (ext_valid u) t → (HasExtOnly t → ⊥) → term_of base_term (lower u t) ≡ term_of (ext_term basis u) t
    lowered-term (Some t) h n = lowered_tree-term t h n
    lowered-term None h n = absurd h

-- The lowered tree of a node is made from the lowered trees of its operands.
module _ {F EF : Type 0} (u : BaseNodes F) (node : Tree (ExtLeaf F EF) → Tree (ExtLeaf F EF) → Tree (ExtLeaf F EF)) where
  lowered-both : (lowered_node : Tree (BaseLeaf F) → Tree (BaseLeaf F) → Tree (BaseLeaf F))
      → ((t x : Tree (ExtLeaf F EF)) → lower_tree u (node t x) ≡ both lowered_node (lower_tree u t) (lower_tree u x))
      → (o p : Option (Tree (ExtLeaf F EF))) → IsValidTree (ext_valid u) o → IsValidTree (ext_valid u) p → lower u (both node o p) ≡ both lowered_node (lower u o) (lower u p)
  lowered-both lowered_node is (Some t) (Some x) h k = is t x
  lowered-both lowered_node is (Some t) None h k = absurd k
  lowered-both lowered_node is None p h k = absurd h

module _ {F EF : Type 0} (u : BaseNodes F) where
  lowered-negative : (o : Option (Tree (ExtLeaf F EF))) → IsValidTree (ext_valid u) o → lower u (option_map neg_tree o) ≡ option_map neg_tree (lower u o)
  lowered-negative (Some t) h = refl
  lowered-negative None h = absurd h

-- A node has an extension-only leaf exactly if one of its operands has.
module _ {F EF : Type 0} (node : Tree (ExtLeaf F EF) → Tree (ExtLeaf F EF) → Tree (ExtLeaf F EF)) where
  pub either_ext_only : (valid : ExtLeaf F EF → Type 0) → ((t x : Tree (ExtLeaf F EF)) → SomeExtOnly t ⊎ SomeExtOnly x → SomeExtOnly (node t x))
      → (o p : Option (Tree (ExtLeaf F EF))) → IsValidTree valid o → IsValidTree valid p → HasExtOnly o ⊎ HasExtOnly p → HasExtOnly (both node o p)
  either_ext_only valid is (Some t) (Some x) h k e = is t x e
  either_ext_only valid is (Some t) None h k e = absurd k
  either_ext_only valid is None p h k e = absurd h

  pub ext_only_either : ((t x : Tree (ExtLeaf F EF)) → SomeExtOnly (node t x) → SomeExtOnly t ⊎ SomeExtOnly x)
      → (o p : Option (Tree (ExtLeaf F EF))) → HasExtOnly (both node o p) → HasExtOnly o ⊎ HasExtOnly p
  ext_only_either is (Some t) (Some x) e = is t x e
  ext_only_either is (Some t) None e = absurd e
  ext_only_either is None p e = absurd e

module _ {F EF : Type 0} where
  pub negative_ext_only : (o : Option (Tree (ExtLeaf F EF))) → HasExtOnly o → HasExtOnly (option_map neg_tree o)
  negative_ext_only (Some t) e = e
  negative_ext_only None e = absurd e

  pub ext_only_negative : (o : Option (Tree (ExtLeaf F EF))) → HasExtOnly (option_map neg_tree o) → HasExtOnly o
  ext_only_negative (Some t) e = e
  ext_only_negative None e = absurd e

-- the lowered tree of a number has the number's term
pub lowered-has-term : {F EF : Type 0} (r : CommRing F) (basis : Basis F EF) (p : ExtNodes F EF) (i : ℕ) (u : BaseNodes F) (b : ℕ) → IsPool (ext_reads basis) p → i < length p.nodes → (HasExtOnly (tree_at p i) → ⊥) → HasTree u (lower p.base (tree_at p i)) b → HasTermOf basis p i u b
lowered-has-term r basis p i u b pool here n h =
    ap (term_of base_term) h.tree
    ∙ lowered-term r basis p.base (tree_at p i) (tree_of-valid (ext_reads basis p.base) p.nodes pool.nodes i here) n

-- A number of the base pool keeps its tree.
pub HasTree-kept : {F : Type 0} (r : CommRing F) (u v : BaseNodes F) (i : ℕ) (t : Option (Tree (BaseLeaf F))) → ext_grows u v → HasTree u t i → HasTree v t i
HasTree-kept r u v i t g h = record {
  here = here-kept r base_reads base_grows tt (base_leaf_laws r) u v i g h.here;
  tree = tree-kept r base_reads base_grows tt (base_leaf_laws r) u v i g h.here ∙ h.tree;
}

-- The table's entry for a lowered operand is that operand lowered.
module _ {F EF : Type 0} (p q : ExtNodes F EF) (i : ℕ) (o : Option ℕ) where
  pub lowered-there : IsLoweredIn p q i o → o ≡ None → ⊥
  lowered-there h n = let e : Some h.0 ≡ None = sym h.1 ∙ n in cc

  pub lowered-read : IsLoweredIn p q i o → (b : ℕ) → o ≡ Some b → HasTree q.base (lower p.base (tree_at p i)) b
  lowered-read h b e =
      let s : Some h.0 ≡ Some b = sym h.1 ∙ e in
      let same : h.0 ≡ b = cc in
      subst (λ k. HasTree q.base (lower p.base (tree_at p i)) k) same h.2

-- a property of all numbers below k holds for operands below k
pub each_below : {A : Type 0} (P Q : ℕ → Type 0) (k : ℕ) (n : SymbolicExpr A) → ((i : ℕ) → i < k → P i → Q i) → OperandsBelow k n → EachOperand P n → EachOperand Q n
each_below P Q k n f b h = λ j d lt. f _ (b j d lt) (h j d lt)

-- an extension-only leaf of an operand is one of the node
module _ {F EF : Type 0} (l : Leaves (ExtLeaf F EF) F) (ns : List (SymbolicExpr (ExtLeaf F EF))) (wf : WellFormed l ns) where
  joined_ext_only : (node : Tree (ExtLeaf F EF) → Tree (ExtLeaf F EF) → Tree (ExtLeaf F EF)) → ((t u : Tree (ExtLeaf F EF)) → SomeExtOnly t ⊎ SomeExtOnly u → SomeExtOnly (node t u))
      → (i x y : ℕ) → All (λ z. z < length ns) (x ∷ y ∷ []) → Contains (x ∷ y ∷ []) i → HasExtOnly (tree_of ns i) → HasExtOnly (both node (tree_of ns x) (tree_of ns y))
  joined_ext_only node is i x y b p h =
      either_ext_only node l.valid is (tree_of ns x) (tree_of ns y) (tree_of-valid l ns wf x (b 0 x (omega arith))) (tree_of-valid l ns wf y (b 1 y (omega arith)))
      (⊎_elim
      (λ (e : i ≡ x). inl (subst (λ k. HasExtOnly (tree_of ns k)) e h))
      (λ (e : i ≡ y). inr (subst (λ k. HasExtOnly (tree_of ns k)) e h))
      (one_of_two i x y p))

  pub operand-ext-only : (i : ℕ) (n : SymbolicExpr (ExtLeaf F EF)) → NodeFits l ns n → IsOperand i n → HasExtOnly (tree_of ns i) → HasExtOnly (unfold_node (tree_of ns) n)
  operand-ext-only i (Leaf a) fits p h = absurd (no_operand i p)
  operand-ext-only i (Add x y d) fits p h = joined_ext_only add_tree (λ _ _ e. e) i x y fits.below p h
  operand-ext-only i (Sub x y d) fits p h = joined_ext_only sub_tree (λ _ _ e. e) i x y fits.below p h
  operand-ext-only i (Neg x d) fits p h = negative_ext_only (tree_of ns x) (subst (λ k. HasExtOnly (tree_of ns k)) (the_operand i x p) h)
  operand-ext-only i (Mul x y d) fits p h = joined_ext_only mul_tree (λ _ _ e. e) i x y fits.below p h

-- Number i, which can be lowered, is a node in the base pool over its operands' base numbers.
module _ {F EF : Type 0} (r : CommRing F) {basis : Basis F EF} {p : ExtNodes F EF} (pool : IsPool (ext_reads basis) p) {table : List (Option ℕ)} {i : ℕ} (ready : CanLower p table i) where
  module _ {n : SymbolicExpr (ExtLeaf F EF)} (is : IsNode (ext_reads basis p.base) p.nodes i n) where
    pub operands-there : EachOperand (λ x. get_or table x None ≡ None → ⊥) n
    operands-there =
        each_below (LoweredAt p table) (λ x. get_or table x None ≡ None → ⊥) i n (λ x _ h. lowered-there p p x (get_or table x None) h) is.below (ready.operands n is.node)

  -- b is the base number of x
  record IsFor (x b : ℕ) : Type 0 where
    valid : IsValidTree (ext_valid p.base) (tree_at p x)
    here : b < length p.base.nodes
    degree : cached_degree (ext_reads basis p.base) p.nodes x ≡ cached_degree base_leaves p.base.nodes b
    tree : tree_at p.base b ≡ lower p.base (tree_at p x)

  -- an operand's base number, as the table has it
  operand : {n : SymbolicExpr (ExtLeaf F EF)} → IsNode (ext_reads basis p.base) p.nodes i n → (x b : ℕ) → IsOperand x n → get_or table x None ≡ Some b → IsFor x b
  operand {n = n} is x b of e =
      let here = All-contains (λ z. z < length p.nodes) (operands n) x is.fits.below of in
      let base = λ (o : HasExtOnly (tree_at p x)). ready.base_only (subst HasExtOnly (sym is.tree) (operand-ext-only (ext_reads basis p.base) p.nodes pool.nodes x n is.fits of o)) in
      let h = lowered-read p p x (get_or table x None) (All-contains (LoweredAt p table) (operands n) x (ready.operands n is.node) of) b e in
      record {
        valid = tree_of-valid (ext_reads basis p.base) p.nodes pool.nodes x here;
        here = h.here;
        degree = ap (degree_by cached_weight) (sym (lowered-has-term r basis p x p.base b pool here base h));
        tree = h.tree;
      }

  -- a node over two operands, and its lowered node
  module _ (join : ℕ → ℕ → ℕ) (node : Tree (BaseLeaf F) → Tree (BaseLeaf F) → Tree (BaseLeaf F)) (ext_node : Tree (ExtLeaf F EF) → Tree (ExtLeaf F EF) → Tree (ExtLeaf F EF))
      (lowers : (t u : Tree (ExtLeaf F EF)) → lower_tree p.base (ext_node t u) ≡ both node (lower_tree p.base t) (lower_tree p.base u)) where
    over_two : {x y d a b : ℕ} → IsFor x a → IsFor y b → d ≡ join (cached_degree (ext_reads basis p.base) p.nodes x) (cached_degree (ext_reads basis p.base) p.nodes y)
        → tree_at p i ≡ both ext_node (tree_at p x) (tree_at p y)
        → All (λ z. z < length p.base.nodes) (a ∷ b ∷ []) × (d ≡ join (cached_degree base_leaves p.base.nodes a) (cached_degree base_leaves p.base.nodes b))
        × (both node (tree_at p.base a) (tree_at p.base b) ≡ lower p.base (tree_at p i))
    over_two {x = x} {y = y} {a = a} {b = b} h k degree tree = (
      of_two (λ z. z < length p.base.nodes) a b h.here k.here,
      degree ∙ ap₂ join h.degree k.degree,
      ap₂ (both node) h.tree k.tree ∙ sym (ap (lower p.base) tree ∙ lowered-both p.base ext_node node lowers (tree_at p x) (tree_at p y) h.valid k.valid),
    )

  pub added : {x y d a b : ℕ} → IsNode (ext_reads basis p.base) p.nodes i (Add x y d) → get_or table x None ≡ Some a → get_or table y None ≡ Some b → IsCounterpart p i (Node (Add a b d))
  added {x = x} {y = y} is e f =
      let h = over_two max add_tree add_tree (λ _ _. refl) (operand is x _ (0, omega arith, refl) e) (operand is y _ (1, omega arith, refl) f) is.fits.degree is.tree in
      (record { valid = tt; below = h.0; degree = h.1; in_range = is.fits.in_range }, h.2)

  pub subtracted : {x y d a b : ℕ} → IsNode (ext_reads basis p.base) p.nodes i (Sub x y d) → get_or table x None ≡ Some a → get_or table y None ≡ Some b → IsCounterpart p i (Node (Sub a b d))
  subtracted {x = x} {y = y} is e f =
      let h = over_two max sub_tree sub_tree (λ _ _. refl) (operand is x _ (0, omega arith, refl) e) (operand is y _ (1, omega arith, refl) f) is.fits.degree is.tree in
      (record { valid = tt; below = h.0; degree = h.1; in_range = is.fits.in_range }, h.2)

  pub multiplied : {x y d a b : ℕ} → IsNode (ext_reads basis p.base) p.nodes i (Mul x y d) → get_or table x None ≡ Some a → get_or table y None ≡ Some b → IsCounterpart p i (Node (Mul a b d))
  multiplied {x = x} {y = y} is e f =
      let h = over_two (λ k l. k + l) mul_tree mul_tree (λ _ _. refl) (operand is x _ (0, omega arith, refl) e) (operand is y _ (1, omega arith, refl) f) is.fits.degree is.tree in
      (record { valid = tt; below = h.0; degree = h.1; in_range = is.fits.in_range }, h.2)

  pub negated : {x d a : ℕ} → IsNode (ext_reads basis p.base) p.nodes i (Neg x d) → get_or table x None ≡ Some a → IsCounterpart p i (Node (Neg a d))
  negated {x = x} {a = a} is e =
      let h = operand is x _ (0, omega arith, refl) e in (
        record { valid = tt; below = of_one (λ z. z < length p.base.nodes) a h.here; degree = is.fits.degree ∙ h.degree; in_range = is.fits.in_range },
        ap (option_map neg_tree) h.tree ∙ sym (ap (lower p.base) is.tree ∙ lowered-negative p.base (tree_at p x) h.valid),
      )
