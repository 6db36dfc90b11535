-- A pool is determined by the trees that are made in it, in order.
use Rattle.std.proofs.Common.{◌≡◌, inl, inr, ℕ, zero, suc, ◌+◌, ◌<◌, ◌≤◌, List, [], ◌∷◌, ◌++◌, length, map, take, get_or, Contains, refl, sym, ap, subst, ◌∙◌, arith}
use Rattle.std.specs.Prelude.{Option, Some, None, slice_get}
use Rattle.std.proofs.lemmas.List.{take_more, take_all, get_or-take, length-take-le, length-append, ext_get_or}
use Rattle.std.proofs.lemmas.Option.{slice_get-get_or, get_or_from_slice_get, same_Some}
use Rattle.air_field.specs.Degree.{degree_by, cached_weight}
use Rattle.air_symbolic.specs.Leaves.{Leaves}
use Rattle.air_symbolic.specs.Trees.{Tree, term_of}
use Rattle.air_symbolic.specs.Nodes.{unfold_node, in_turn, tree_of, node_degree, NodeFits, WellFormed, OperandsBelow, IsNode}
use Rattle.air_symbolic.specs.Numbered.{Numbered, GainsEach, trees_in}
use Rattle.air_symbolic.specs.Pools.{Pool, on_base, IsPool}
use Rattle.air_symbolic.specs.laws.Numbers.{length-in_turn, made-kept, tree_of-valid, tree_there}
use Rattle.air_symbolic.specs.laws.Sharing.{found, there_at, is_there, unfold-there, same_node, shared}
use Rattle.air_symbolic.specs.declared.pools.expr.SymbolicExpr.{SymbolicExpr}

-- ---- Numbers

pub numbered_on : (n m k : ℕ) (is js : List ℕ) → Numbered n is m → Numbered m js k → Numbered n (is ++ js) k
numbered_on n m k [] js e h = subst (λ l. Numbered l js k) e h
numbered_on n m k (i ∷ is) js (inl (lt, h)) g = inl (lt, numbered_on n m k is js h g)
numbered_on n m k (i ∷ is) js (inr (at, h)) g = inr (at, numbered_on (n + 1) m k is js h g)

pub numbered_le : (n m : ℕ) (is : List ℕ) → Numbered n is m → n ≤ m
numbered_le n m [] e = omega (arith, e)
numbered_le n m (i ∷ is) (inl (lt, h)) = numbered_le n m is h
numbered_le n m (i ∷ is) (inr (at, h)) = omega (arith, numbered_le (n + 1) m is h)

-- ---- Lists that gain elements

module _ {T : Type 0} where
  pub gains_on : (a b c xs ys : List T) → GainsEach a xs b → GainsEach b ys c → GainsEach a (xs ++ ys) c
  gains_on a b c [] ys e h = subst (λ l. GainsEach l ys c) e h
  gains_on a b c (x ∷ xs) ys (inl (there, h)) g = inl (there, gains_on a b c xs ys h g)
  gains_on a b c (x ∷ xs) ys (inr (new, h)) g = inr (new, gains_on (a ++ x ∷ []) b c xs ys h g)

  pub gains_once : (a b c xs : List T) → GainsEach a xs b → GainsEach a xs c → b ≡ c
  gains_once a b c [] e f = e ∙ sym f
  gains_once a b c (x ∷ xs) (inl h) (inl k) = gains_once a b c xs h.1 k.1
  gains_once a b c (x ∷ xs) (inl h) (inr k) = absurd (k.0 h.0)
  gains_once a b c (x ∷ xs) (inr h) (inl k) = absurd (h.0 k.0)
  gains_once a b c (x ∷ xs) (inr h) (inr k) = gains_once (a ++ x ∷ []) b c xs h.1 k.1

-- ---- The trees of numbers

module _ {A : Type 0} where
  abbrev trees : List (SymbolicExpr A) → List (Option (Tree A))
  trees ns = in_turn None unfold_node [] ns

  counted : (ns : List (SymbolicExpr A)) → length (trees ns) ≡ length ns
  counted ns = omega (arith, length-in_turn None unfold_node [] ns)

  tree-at : (ns : List (SymbolicExpr A)) (i : ℕ) (d : Option (Tree A)) → i < length ns → get_or (trees ns) i d ≡ tree_of ns i
  tree-at ns i d b =
      get_or_from_slice_get (trees ns) i (tree_of ns i) d (slice_get-get_or (trees ns) i None (omega (arith, b, counted ns)))

  -- the first n trees have that of each number below n
  has_below : (ns : List (SymbolicExpr A)) (n i : ℕ) → i < n → n ≤ length ns → Contains (take n (trees ns)) (tree_of ns i)
  has_below ns n i lt le = (
    i,
    omega (arith, lt, length-take-le n (trees ns) (omega (arith, le, counted ns))),
    get_or-take n (trees ns) i (tree_of ns i) lt ∙ tree-at ns i (tree_of ns i) (omega (arith, lt, le)),
  )

  -- and then that of number n
  one_more : (ns : List (SymbolicExpr A)) (n : ℕ) → n < length ns → take (n + 1) (trees ns) ≡ take n (trees ns) ++ tree_of ns n ∷ []
  one_more ns n b = take_more (trees ns) n None (omega (arith, b, counted ns))

  -- further nodes come after the trees
  first_trees : (ns more : List (SymbolicExpr A)) → take (length ns) (trees (ns ++ more)) ≡ trees ns
  first_trees ns more =
      let count : length (take (length ns) (trees (ns ++ more))) ≡ length ns =
      length-take-le (length ns) (trees (ns ++ more)) (omega (arith, counted (ns ++ more), length-append ns more)) in
      ext_get_or None (take (length ns) (trees (ns ++ more))) (trees ns) (count ∙ sym (counted ns))
      (λ i b. let lt : i < length ns = omega (arith, b, count) in
      get_or-take (length ns) (trees (ns ++ more)) i None lt ∙ made-kept None unfold_node ns more i lt)

module _ {A F : Type 0} (l : Leaves A F) where
  -- they have no tree of another number
  has_later : (ns : List (SymbolicExpr A)) → WellFormed l ns → (n i : ℕ) → n ≤ i → i < length ns → Contains (take n (trees ns)) (tree_of ns i) → ⊥
  has_later ns wf n i le b (j, lt, e) =
      let below : j < n = omega (arith, lt, length-take-le n (trees ns) (omega (arith, le, b, counted ns))) in
      let same : tree_of ns j ≡ tree_of ns i =
      sym (tree-at ns j (tree_of ns i) (omega (arith, below, le, b))) ∙ sym (get_or-take n (trees ns) j (tree_of ns i) below) ∙ e in
      omega (arith, below, le, shared l ns wf j i (omega (arith, below, le, b)) b same)

  -- a pool gains the trees of the numbers that it gives
  pub gains_trees : (ns : List (SymbolicExpr A)) → WellFormed l ns → (n m : ℕ) (is : List ℕ) → Numbered n is m → m ≤ length ns
      → GainsEach (take n (trees ns)) (map (tree_of ns) is) (take m (trees ns))
  gains_trees ns wf n m [] e le = ap (λ k. take k (trees ns)) e
  gains_trees ns wf n m (i ∷ is) (inl (lt, h)) le =
      inl (has_below ns n i lt (omega (arith, numbered_le n m is h, le)), gains_trees ns wf n m is h le)
  gains_trees ns wf n m (i ∷ is) (inr (at, h)) le =
      let b : n < length ns = omega (arith, numbered_le (n + 1) m is h, le) in
      inr (
        has_later ns wf n i (omega (arith, at)) (omega (arith, at, b)),
        subst (λ ts. GainsEach ts (map (tree_of ns) is) (take m (trees ns))) (one_more ns n b ∙ ap (λ k. take n (trees ns) ++ tree_of ns k ∷ []) (sym at))
            (gains_trees ns wf (n + 1) m is h le),
      )

  -- likewise as nodes are added to a list
  pub pool_gains : (ns ms : List (SymbolicExpr A)) → (more : List (SymbolicExpr A)) × (ms ≡ ns ++ more) → WellFormed l ms → (is : List ℕ) → Numbered (length ns) is (length ms)
      → GainsEach (trees ns) (map (tree_of ms) is) (trees ms)
  pool_gains ns ms grown wf is h =
      let before : take (length ns) (trees ms) ≡ trees ns = ap (λ xs. take (length ns) (trees xs)) grown.1 ∙ first_trees ns grown.0 in
      let after : take (length ms) (trees ms) ≡ trees ms = take_all (length ms) (trees ms) (omega (arith, counted ms)) in
      subst (λ b. GainsEach b (map (tree_of ms) is) (trees ms)) before
      (subst (λ a. GainsEach (take (length ns) (trees ms)) (map (tree_of ms) is) a) after (gains_trees ms wf (length ns) (length ms) is h (omega arith)))

  -- ---- Pools with the same trees

  module _ (ns ms : List (SymbolicExpr A)) (wf : WellFormed l ns) (wm : WellFormed l ms) (same : trees ns ≡ trees ms) where
    same_count : length ns ≡ length ms
    same_count = sym (counted ns) ∙ ap length same ∙ counted ms

    -- a node that fits the one list fits the other
    fits_too : (m : SymbolicExpr A) → NodeFits l ms m → NodeFits l ns m
    fits_too m h = record {
      valid = h.valid;
      below = subst (λ k. OperandsBelow k m) (sym same_count) h.below;
      degree =
          h.degree
          ∙ ap (λ ts. node_degree (λ a. degree_by cached_weight (l.term a)) (λ i. degree_by cached_weight (term_of l.term (get_or ts i None))) m) (sym same);
      in_range = h.in_range;
    }

    one_node : (i : ℕ) → i < length ns → slice_get ns i ≡ slice_get ms i
    one_node i b =
        let f : (n : SymbolicExpr A) × IsNode l ns i n = found l ns wf i b in
        let g : (m : SymbolicExpr A) × IsNode l ms i m = found l ms wm i (omega (arith, b, same_count)) in
        let z : Tree A = (tree_there l.valid (tree_of ns i) (tree_of-valid l ns wf i b)).0 in
        let fits : NodeFits l ns g.0 = fits_too g.0 g.1.fits in
        let nodes : f.0 ≡ g.0 =
        same_node l ns i (there_at l ns wf z)
        (λ x y low x_in y_in t. shared l ns wf x y x_in y_in (is_there l ns wf z x x_in ∙ ap (λ (v : Tree A). Some v) t ∙ sym (is_there l ns wf z y y_in)))
        f.0 g.0 f.1.below f.1.fits fits
        (same_Some _ _ (sym (unfold-there l ns wf z f.0 f.1.fits) ∙ sym f.1.tree
        ∙ ap (λ ts. get_or ts i None) same ∙ g.1.tree
        ∙ ap (λ ts. unfold_node (λ k. get_or ts k None) g.0) (sym same) ∙ unfold-there l ns wf z g.0 fits)) in
        f.1.node ∙ ap (λ (n : SymbolicExpr A). Some n) nodes ∙ sym g.1.node

  pub one_list : (ns ms : List (SymbolicExpr A)) → WellFormed l ns → WellFormed l ms → trees ns ≡ trees ms → ns ≡ ms
  one_list ns ms wf wm same = same_elements ns ms (same_count ns ms wf wm same) (one_node ns ms wf wm same)
    where
      same_elements : {N : Type 0} (xs ys : List N) → length xs ≡ length ys → ((i : ℕ) → i < length xs → slice_get xs i ≡ slice_get ys i) → xs ≡ ys
      same_elements [] [] e h = refl
      same_elements [] (y ∷ ys) e h = absurd (omega (arith, e))
      same_elements (x ∷ xs) [] e h = absurd (omega (arith, e))
      same_elements (x ∷ xs) (y ∷ ys) e h =
          let first : x ≡ y = same_Some x y (h zero (omega arith)) in
          let rest : xs ≡ ys = same_elements xs ys (omega (arith, e)) (λ i b. h (suc i) (omega (arith, b))) in
          cc

-- pools over one base, with the same trees in order, are equal
pub one_pool : {U A F : Type 0} (reads : U → Leaves A F) (p q : Pool U A) → IsPool reads p → IsPool reads q → q.base ≡ p.base → trees_in q ≡ trees_in p → q ≡ p
one_pool reads p q hp hq base same =
    let wf = subst (λ u. WellFormed (reads u) q.nodes) base hq.nodes in
    let nodes : q.nodes ≡ p.nodes = one_list (reads p.base) q.nodes p.nodes wf hp.nodes same in
    ap (λ u. on_base q u) base ∙ ap (λ ns. record { base = p.base; nodes = ns }) nodes
