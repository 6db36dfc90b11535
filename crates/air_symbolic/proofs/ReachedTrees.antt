-- The nodes reached in an extension pool, and the extension-only leaves of its trees.
use Rattle.std.proofs.Common.{◌≡◌, ◌⊎◌, ℕ, zero, suc, ◌+◌, ◌<◌, List, [], ◌∷◌, ◌++◌, length, get_or, Bool, true, false, Decides, Option, None, Some, IfSome, refl, sym, ap, subst, ◌∙◌, arith, ⊎_elim}
use Rattle.std.proofs.lemmas.List.{get_or_default, get_or_append_left, get_or_push}
use Rattle.std.specs.Prelude.{slice_get}
use Rattle.air_field.specs.Ring.{CommRing}
use Rattle.air_field.specs.Extension.{Basis}
use Rattle.air_symbolic.specs.Leaves.{Leaves}
use Rattle.air_symbolic.specs.Trees.{Tree, leaf_tree, add_tree, sub_tree, mul_tree}
use Rattle.air_symbolic.specs.Nodes.{unfold_node, tree_of, WellFormed, IsNode}
use Rattle.air_symbolic.specs.laws.Numbers.{tree_of-valid}
use Rattle.air_symbolic.specs.laws.Sharing.{found, node_at-is}
use Rattle.air_symbolic.specs.Pools.{IsPool, Grown, HasTree, tree_at}
use Rattle.air_symbolic.specs.ExtLeaves.{ext_grows, ext_reads}
use Rattle.air_symbolic.specs.ExtPool.{ExtNodes}
use Rattle.air_symbolic.specs.ExtTrees.{HasExtOnly, lower}
use Rattle.air_symbolic.specs.Reach.{EachOperand, Marked, Reached, ReachedFrom, root, operand}
use Rattle.air_symbolic.specs.Lowered.{IsExtOnlyLeaf, IsMarkedExtOnly, IsLoweredIn, LoweredAt, CanLower}
use Rattle.air_symbolic.specs.declared.pools.expr.SymbolicExpr.{SymbolicExpr}
use Rattle.air_symbolic.specs.declared.pools.expr.SymbolicExpr.TheVariants as node
use Rattle.air_symbolic.specs.declared.leaves.ext_leaf.ExtLeaf.{ExtLeaf}
use Rattle.air_symbolic.proofs.Lowering.{each_below, operand-ext-only, HasTree-kept, lowered-kept, lowered-read, ext_only_either, ext_only_negative}

leaf-ext-only : {F EF : Type 0} (t : Option (Tree (ExtLeaf F EF))) → IsExtOnlyLeaf t → HasExtOnly t
leaf-ext-only (Some (leaf_tree a)) h = h
leaf-ext-only _ h = absurd h

-- a mark that was tested and isn't an extension-only leaf
pub not-marked : {F EF : Type 0} (p : ExtNodes F EF) (marks : List (Option ℕ)) (k : ℕ) (o : Option ℕ) (b : Bool) → k < length marks → o ≡ get_or marks k o → Decides b (IsMarkedExtOnly p o) → b ≡ false → IsMarkedExtOnly p (get_or marks k None) → ⊥
not-marked p marks k o b lt e d f h =
    let at : get_or marks k None ≡ o = get_or_default marks k None o lt ∙ sym e in
    let t : b ≡ true = d.1 (subst (λ w. IsMarkedExtOnly p w) at h) in
    let q : true ≡ false = sym t ∙ f in
    cc

module _ {F EF : Type 0} (l : Leaves (ExtLeaf F EF) F) (p : ExtNodes F EF) (r : ℕ) where
  -- if a number that the root reaches has an extension-only leaf, so has the root
  reached-ext-only : WellFormed l p.nodes → (i : ℕ) → ReachedFrom l p.nodes (r ∷ []) i → HasExtOnly (tree_at p i) → HasExtOnly (tree_at p r)
  reached-ext-only wf i (root (k, lt, e)) h =
      let z : k ≡ 0 = omega (arith, lt) in
      let first : r ≡ i = subst (λ j. get_or (r ∷ []) j i ≡ i) z e in
      subst (λ j. HasExtOnly (tree_at p j)) (sym first) h
  reached-ext-only wf i (operand {j = j} {n = n} f is o) h =
      reached-ext-only wf j f (subst (λ t. HasExtOnly t) (sym is.tree) (operand-ext-only l p.nodes wf i n is.fits o h))

  module _ (marks : List (Option ℕ)) (reach : Reached l p.nodes (r ∷ []) marks) where
    -- a mark read at entry k is k, marked and reached
    mark-at : (k i : ℕ) (o : Option ℕ) → k < length marks → o ≡ get_or marks k o → o ≡ Some i → (i ≡ k) × Marked marks i × ReachedFrom l p.nodes (r ∷ []) i
    mark-at k i o lt e s =
        let at : get_or marks k None ≡ Some i = get_or_default marks k None o lt ∙ sym e ∙ s in
        let m = reach.only_reached k i at in
        (m.0, subst (λ j. get_or marks j None ≡ Some i) (sym m.0) at, subst (λ j. ReachedFrom l p.nodes (r ∷ []) j) (sym m.0) m.1)

    -- a marked number is in the pool
    pub mark-here : (k : ℕ) (o : Option ℕ) → k < length marks → o ≡ get_or marks k o → IfSome o (λ i. i < length p.nodes)
    mark-here k None lt e = tt
    mark-here k (Some i) lt e =
        let m = mark-at k i (Some i) lt e refl in
        omega (arith, m.0, lt, reach.places)

    -- a marked extension-only leaf occurs in the root's tree
    pub marked-ext-only : WellFormed l p.nodes → (k : ℕ) (o : Option ℕ) → k < length marks → o ≡ get_or marks k o → IsMarkedExtOnly p o → HasExtOnly (tree_at p r)
    marked-ext-only wf k None lt e h = absurd h
    marked-ext-only wf k (Some i) lt e h =
        let m = mark-at k i (Some i) lt e refl in
        reached-ext-only wf i m.2 (leaf-ext-only (tree_at p i) h)

    -- if none is marked, no marked number's tree has one
    module _ (wf : WellFormed l p.nodes) (none : (i : ℕ) → i < length marks → IsMarkedExtOnly p (get_or marks i None) → ⊥) where
      none-in-node : (i : ℕ) (n : SymbolicExpr (ExtLeaf F EF)) → i < length marks → Marked marks i → tree_at p i ≡ unfold_node (tree_of p.nodes) n → EachOperand (λ j. HasExtOnly (tree_at p j) → ⊥) n → HasExtOnly (unfold_node (tree_of p.nodes) n) → ⊥
      none-in-node i (node.Leaf a) lt m t f h =
          none i lt (subst (λ o. IsMarkedExtOnly p o) (sym m) (subst (λ u. IsExtOnlyLeaf u) (sym t) h))
      none-in-node i (node.Add x y d) lt m t f h = ⊎_elim (f 0 x (omega arith)) (f 1 y (omega arith)) (ext_only_either add_tree (λ _ _ e. e) _ _ h)
      none-in-node i (node.Sub x y d) lt m t f h = ⊎_elim (f 0 x (omega arith)) (f 1 y (omega arith)) (ext_only_either sub_tree (λ _ _ e. e) _ _ h)
      none-in-node i (node.Neg x d) lt m t f h = f 0 x (omega arith) (ext_only_negative (tree_of p.nodes x) h)
      none-in-node i (node.Mul x y d) lt m t f h = ⊎_elim (f 0 x (omega arith)) (f 1 y (omega arith)) (ext_only_either mul_tree (λ _ _ e. e) _ _ h)

      none-below : (k i : ℕ) → i < k → i < length p.nodes → Marked marks i → HasExtOnly (tree_at p i) → ⊥
      none-below zero i b lt m h = absurd (omega (arith, b))
      none-below (suc k) i b lt m h =
          let f : (n : SymbolicExpr (ExtLeaf F EF)) × IsNode l p.nodes i n = found l p.nodes wf i lt in
          none-in-node i f.0 (omega (arith, lt, reach.places)) m f.1.tree
          (each_below (λ j. Marked marks j) (λ j. HasExtOnly (tree_at p j) → ⊥) i f.0
          (λ j lo mj. none-below k j (omega (arith, lo, b)) (omega (arith, lo, lt)) mj) f.1.below
          (reach.operands_marked i f.0 m f.1))
          (subst (λ t. HasExtOnly t) f.1.tree h)

      pub none-marked : r < length p.nodes → HasExtOnly (tree_at p r) → ⊥
      none-marked here =
          let m : Marked marks r = reach.roots_marked 0 r (omega arith) in
          none-below (r + 1) r (omega arith) here m

    -- A marked number can be lowered in s, which has p's nodes, once all smaller marked numbers are lowered.
    pub mark-can-lower : (s : ExtNodes F EF) (table : List (Option ℕ)) (k : ℕ) (o : Option ℕ) → WellFormed l p.nodes → s.nodes ≡ p.nodes → (HasExtOnly (tree_at p r) → ⊥) → ((j : ℕ) → j < k → Marked marks j → LoweredAt s table j) → k < length marks → o ≡ get_or marks k o → IfSome o (CanLower s table)
    mark-can-lower s table k None wf same base made lt e = tt
    mark-can-lower s table k (Some i) wf same base made lt e =
        let m : (i ≡ k) × Marked marks i × ReachedFrom l p.nodes (r ∷ []) i = mark-at k i (Some i) lt e refl in
        let here : i < length p.nodes = omega (arith, m.0, lt, reach.places) in
        record {
          here = subst (λ (ns : List (SymbolicExpr (ExtLeaf F EF))). i < length ns) (sym same) here;
          base_only = λ h. base (reached-ext-only wf i m.2 (subst (λ (ns : List (SymbolicExpr (ExtLeaf F EF))). HasExtOnly (tree_of ns i)) same h));
          operands = λ n at.
              let is : IsNode l p.nodes i n = node_at-is l p.nodes wf i n (subst (λ (ns : List (SymbolicExpr (ExtLeaf F EF))). slice_get ns i ≡ Some n) same at) in
              each_below (λ j. Marked marks j) (LoweredAt s table) i n
              (λ j lo mj. made j (omega (arith, lo, m.0)) mj) is.below (reach.operands_marked i n m.1 is);
        }

    -- the table gets one more entry
    pub more-lowered : (r : CommRing F) (basis : Basis F EF) (s t : ExtNodes F EF) (table new : List (Option ℕ)) (k : ℕ) (o y : Option ℕ) → IsPool (ext_reads basis) s → Grown ext_grows (ext_reads basis) s t → t.nodes ≡ s.nodes → s.nodes ≡ p.nodes → k < length marks → o ≡ get_or marks k o → length table ≡ k → new ≡ table ++ y ∷ [] → ((j : ℕ) → j < k → Marked marks j → LoweredAt s table j) → IfSome o (λ i. IsLoweredIn s t i y) → (j : ℕ) → j < k + 1 → Marked marks j → LoweredAt t new j
    more-lowered r basis s t table new k o y pool g same first lt e places is made now j below m =
        subst (λ (v : List (Option ℕ)). LoweredAt t v j) (sym is)
        (⊎_elim
        (λ (b : j < k).
        let h : LoweredAt s table j = made j b m in
        (h.0, get_or_append_left table (y ∷ []) None j (omega (arith, b, places)) ∙ h.1, moved j (omega (arith, b, lt, reach.places, ap length first)) h.0 (HasTree-kept r s.base t.base h.0 (lower s.base (tree_at s j)) g.base h.2)))
        (λ (b : j ≡ k).
        let at : o ≡ Some j = e ∙ get_or_default marks k o None lt ∙ subst (λ i. get_or marks i None ≡ Some j) b m in
        let h : IsLoweredIn s t j y = subst (λ w. IfSome w (λ i. IsLoweredIn s t i y)) at now in
        (h.0, get_or_push table y None j (places ∙ sym b) ∙ h.1, moved j (omega (arith, b, lt, reach.places, ap length first)) h.0 h.2))
        (before_or_at j k below))
      where
        before_or_at : (i k : ℕ) → i < k + 1 → (i < k) ⊎ (i ≡ k)
        before_or_at i k b = grind (arith, b)

        moved : (i : ℕ) → i < length s.nodes → (b : ℕ) → HasTree t.base (lower s.base (tree_at s i)) b → HasTree t.base (lower t.base (tree_at t i)) b
        moved i here b h = record {
          here = h.here;
          tree = h.tree
              ∙ sym (lowered-kept r s.base t.base g.base (tree_at s i) (tree_of-valid (ext_reads basis s.base) s.nodes pool.nodes i here))
              ∙ ap (λ (ns : List (SymbolicExpr (ExtLeaf F EF))). lower t.base (tree_of ns i)) (sym same);
        }

-- a number lowered at the end is the number as it was lowered at first
pub lowered-at-first : {F EF : Type 0} (r : CommRing F) (basis : Basis F EF) (p s : ExtNodes F EF) (table : List (Option ℕ)) (i b : ℕ) → IsPool (ext_reads basis) p → Grown ext_grows (ext_reads basis) p s → s.nodes ≡ p.nodes → i < length p.nodes → LoweredAt s table i → get_or table i None ≡ Some b → HasTree s.base (lower p.base (tree_at p i)) b
lowered-at-first r basis p s table i b pool g same here h e =
    let last : HasTree s.base (lower s.base (tree_at s i)) b = lowered-read s s i (get_or table i None) h b e in
    record {
      here = last.here;
      tree = last.tree
          ∙ ap (λ (ns : List (SymbolicExpr (ExtLeaf _ _))). lower s.base (tree_of ns i)) same
          ∙ lowered-kept r p.base s.base g.base (tree_at p i) (tree_of-valid (ext_reads basis p.base) p.nodes pool.nodes i here);
    }
