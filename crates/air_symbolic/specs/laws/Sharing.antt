-- The node of each number; no tree has two numbers.
use Rattle.std.proofs.Common.{◌≡◌, ℕ, zero, suc, [], ◌∷◌, All, ◌+◌, ◌^◌, ◌<◌, ◌≤◌, List, length, take, refl, sym, ap, ap₂, subst, ◌∙◌, arith}
use Rattle.std.specs.Prelude.{Option, Some, slice_get, unwrap_or, option_map}
use Rattle.std.proofs.lemmas.List.{length-take-le}
use Rattle.std.proofs.lemmas.Option.{slice_get_within}
use Rattle.air_field.specs.Degree.{degree_by, cached_weight}
use Rattle.air_symbolic.specs.Leaves.{Leaves}
use Rattle.air_symbolic.specs.Trees.{Tree, leaf_tree, add_tree, sub_tree, neg_tree, mul_tree, both, term_of}
use Rattle.air_symbolic.specs.Nodes.{unfold_node, node_term, tree_of, cached_degree, stated_degree, NodeFits, WellFormed, OperandsBelow, IsNode}
use Rattle.air_symbolic.specs.laws.Nodes.{valid_node-weaker, unfold_node-same, node_degree-same, node_degree-is}
use Rattle.air_symbolic.specs.laws.Numbers.{element_at, tree_of-before, tree_of-node, tree_of-valid, tree_there, unfold_node-term}
use Rattle.air_symbolic.specs.declared.pools.expr.SymbolicExpr.{SymbolicExpr}
use Rattle.air_symbolic.specs.declared.pools.expr.SymbolicExpr.TheVariants.{Leaf, Add, Sub, Neg, Mul}

module _ {A F : Type 0} (l : Leaves A F) where
  -- the degree that a fitting node states is that of its term
  stated-is : (ns : List (SymbolicExpr A)) (n : SymbolicExpr A) → NodeFits l ns n → degree_by cached_weight (node_term l.term (λ i. term_of l.term (tree_of ns i)) n) ≡ stated_degree l n
  stated-is ns n h = sym (h.degree ∙ node_degree-is cached_weight l.term _ n)

  -- A node that fits the nodes before index i, stated for all nodes.
  module _ (ns : List (SymbolicExpr A)) (i : ℕ) (within : i ≤ length ns) where
    below : (x : ℕ) → x < length (take i ns) → x < i
    below x h = omega (arith, h, length-take-le i ns within)

    here : (x : ℕ) → x < length (take i ns) → x < length ns
    here x h = omega (arith, below x h, within)

    degree-here : (x : ℕ) → x < length (take i ns) → cached_degree l (take i ns) x ≡ cached_degree l ns x
    degree-here x h = ap (λ t. degree_by cached_weight (term_of l.term t)) (tree_of-before ns i x (below x h) within)

    unfold-here : (n : SymbolicExpr A) → NodeFits l (take i ns) n → unfold_node (tree_of (take i ns)) n ≡ unfold_node (tree_of ns) n
    unfold-here n h = unfold_node-same _ _ n (λ k d b. tree_of-before ns i _ (below _ (h.below k d b)) within)

    fits-here : (n : SymbolicExpr A) → NodeFits l (take i ns) n → NodeFits l ns n
    fits-here n h = record {
      valid = h.valid;
      below = λ k d b. here _ (h.below k d b);
      degree = h.degree ∙ node_degree-same _ _ _ _ n (valid_node-weaker l.valid _ (λ a v. refl) n h.valid) (λ k d b. degree-here _ (h.below k d b));
      in_range = h.in_range;
    }

    operands-below : (n : SymbolicExpr A) → NodeFits l (take i ns) n → OperandsBelow i n
    operands-below n h = λ k d b. below _ (h.below k d b)

  -- the node at index i is the node of number i
  pub node_at-is : (ns : List (SymbolicExpr A)) → WellFormed l ns → (i : ℕ) (n : SymbolicExpr A) → slice_get ns i ≡ Some n → IsNode l ns i n
  node_at-is ns wf i n e =
      let within : i ≤ length ns = omega (arith, slice_get_within ns i n e) in
      let fits : NodeFits l (take i ns) n = wf.fits i n e in
      let tree = tree_of-node ns i n e ∙ unfold-here ns i within n fits in
      let term = ap (term_of l.term) tree ∙ unfold_node-term l ns (tree_of-valid l ns wf) n (fits-here ns i within n fits) in
      record {
        node = e;
        tree = tree;
        term = term;
        fits = fits-here ns i within n fits;
        degree = ap (degree_by cached_weight) term ∙ stated-is ns n (fits-here ns i within n fits);
        below = operands-below ns i within n fits;
      }

  -- each number has a node
  pub found : (ns : List (SymbolicExpr A)) → WellFormed l ns → (i : ℕ) → i < length ns → (n : SymbolicExpr A) × IsNode l ns i n
  found ns wf i b = let f = element_at ns i b in (f.0, node_at-is ns wf i f.0 f.1)

  -- each number has a degree within `usize`
  pub cached_in_range : (ns : List (SymbolicExpr A)) → WellFormed l ns → (i : ℕ) → i < length ns → cached_degree l ns i < 2 ^ 64
  cached_in_range ns wf i b = let f = found ns wf i b in subst (λ d. d < 2 ^ 64) (sym f.1.degree) f.1.fits.in_range

  -- ---- The tree of a node over given trees

  abbrev pub node_tree : (ℕ → Tree A) → SymbolicExpr A → Tree A
  node_tree at (Leaf a) = leaf_tree a
  node_tree at (Add x y d) = add_tree (at x) (at y)
  node_tree at (Sub x y d) = sub_tree (at x) (at y)
  node_tree at (Neg x d) = neg_tree (at x)
  node_tree at (Mul x y d) = mul_tree (at x) (at y)

  -- the trees of numbers, z for missing ones; for fitting nodes none is missing
  module _ (ns : List (SymbolicExpr A)) (wf : WellFormed l ns) (z : Tree A) where
    abbrev pub there_at : ℕ → Tree A
    there_at i = unwrap_or (tree_of ns i) z

    pub is_there : (i : ℕ) → i < length ns → tree_of ns i ≡ Some (there_at i)
    is_there i b = let t = tree_there l.valid (tree_of ns i) (tree_of-valid l ns wf i b) in t.1 ∙ ap (λ (o : Option (Tree A)). Some (unwrap_or o z)) (sym t.1)

    both-there : (node : Tree A → Tree A → Tree A) (x y : ℕ) → x < length ns → y < length ns → both node (tree_of ns x) (tree_of ns y) ≡ Some (node (there_at x) (there_at y))
    both-there node x y b c = ap₂ (both node) (is_there x b) (is_there y c)

    pub unfold-there : (n : SymbolicExpr A) → NodeFits l ns n → unfold_node (tree_of ns) n ≡ Some (node_tree there_at n)
    unfold-there (Leaf a) h = refl
    unfold-there (Add x y d) h = both-there add_tree x y (h.below 0 x (omega arith)) (h.below 1 y (omega arith))
    unfold-there (Sub x y d) h = both-there sub_tree x y (h.below 0 x (omega arith)) (h.below 1 y (omega arith))
    unfold-there (Neg x d) h = ap (option_map neg_tree) (is_there x (h.below 0 x (omega arith)))
    unfold-there (Mul x y d) h = both-there mul_tree x y (h.below 0 x (omega arith)) (h.below 1 y (omega arith))

  Some-is : {t u : Tree A} → Some t ≡ Some u → t ≡ u
  Some-is e = cc

  -- Fitting nodes with equal trees are equal, if the trees of the first one's operands have one number each.
  module _ (ns : List (SymbolicExpr A)) (i : ℕ) (at : ℕ → Tree A) (one : (x y : ℕ) → x < i → x < length ns → y < length ns → at x ≡ at y → x ≡ y) where
    same_two : (x y u v : ℕ) → All (λ z. z < i) (x ∷ y ∷ []) → All (λ z. z < length ns) (x ∷ y ∷ []) → All (λ z. z < length ns) (u ∷ v ∷ []) → at x ≡ at u → at y ≡ at v → (x ≡ u) × (y ≡ v)
    same_two x y u v low b c e f =
        (one x u (low 0 x (omega arith)) (b 0 x (omega arith)) (c 0 u (omega arith)) e, one y v (low 1 y (omega arith)) (b 1 y (omega arith)) (c 1 v (omega arith)) f)

    pub same_node : (n m : SymbolicExpr A) → OperandsBelow i n → NodeFits l ns n → NodeFits l ns m → node_tree at n ≡ node_tree at m → n ≡ m
    same_node (Leaf a) (Leaf b) low h k e = cc
    same_node (Add x y d) (Add u v f) low h k e = let s = same_two x y u v low h.below k.below (cc) (cc) in cc (s.0, s.1, h.degree, k.degree)
    same_node (Sub x y d) (Sub u v f) low h k e = let s = same_two x y u v low h.below k.below (cc) (cc) in cc (s.0, s.1, h.degree, k.degree)
    same_node (Neg x d) (Neg u f) low h k e =
        let p : x ≡ u = one x u (low 0 x (omega arith)) (h.below 0 x (omega arith)) (k.below 0 u (omega arith)) (cc) in cc (h.degree, k.degree)
    same_node (Mul x y d) (Mul u v f) low h k e = let s = same_two x y u v low h.below k.below (cc) (cc) in cc (s.0, s.1, h.degree, k.degree)
    same_node _ _ low h k e = cc

  module _ (ns : List (SymbolicExpr A)) (wf : WellFormed l ns) where
    shared_below : (k i j : ℕ) → i < k → i < length ns → j < length ns → tree_of ns i ≡ tree_of ns j → i ≡ j
    shared_below zero i j lt b c e = absurd (omega (arith, lt))
    shared_below (suc k) i j lt b c e =
        let f : (n : SymbolicExpr A) × IsNode l ns i n = found ns wf i b in
        let g : (n : SymbolicExpr A) × IsNode l ns j n = found ns wf j c in
        let z : Tree A = (tree_there l.valid (tree_of ns i) (tree_of-valid l ns wf i b)).0 in
        let same : f.0 ≡ g.0 =
        same_node ns i (there_at ns wf z)
        (λ x y low x_in y_in t. shared_below k x y (omega (arith, low, lt)) x_in y_in (is_there ns wf z x x_in ∙ ap (λ (v : Tree A). Some v) t ∙ sym (is_there ns wf z y y_in)))
        f.0 g.0 f.1.below f.1.fits g.1.fits
        (Some-is (sym (unfold-there ns wf z f.0 f.1.fits) ∙ sym f.1.tree ∙ e ∙ g.1.tree ∙ unfold-there ns wf z g.0 g.1.fits)) in
        wf.once i j f.0 f.1.node (g.1.node ∙ ap (λ (n : SymbolicExpr A). Some n) (sym same))

  -- no tree has two numbers
  pub shared : (ns : List (SymbolicExpr A)) → WellFormed l ns → (i j : ℕ) → i < length ns → j < length ns → tree_of ns i ≡ tree_of ns j → i ≡ j
  shared ns wf i j = shared_below ns wf (i + 1) i j (omega arith)
