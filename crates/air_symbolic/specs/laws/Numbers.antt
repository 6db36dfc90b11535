-- Properties of a pool's numbers that stay as nodes are added and as the base grows.
use Rattle.std.proofs.Common.{◌≡◌, ℕ, zero, suc, ◌+◌, ◌^◌, ◌<◌, ◌≤◌, List, [], ◌∷◌, ◌++◌, length, take, drop, get_or, refl, sym, ap, subst, ◌∙◌, arith, ◌⊎◌, inl, inr, ⊎_elim}
use Rattle.std.specs.Prelude.{Option, None, Some, slice_get, option_map}
use Rattle.std.proofs.Math.ListN.{length-append}
use Rattle.std.proofs.lemmas.List.{get_or_append_left, get_or_push, take-append-drop, length-take-le, take-append-le}
use Rattle.std.proofs.Math.Seq.{take-append_seam}
use Rattle.std.proofs.lemmas.Option.{slice_get_within}
use Rattle.air_field.specs.Degree.{degree_by, cached_weight}
use Rattle.air_field.specs.Term.{Term, add_term, sub_term, neg_term, mul_term}
use Rattle.air_symbolic.specs.Leaves.{Leaves, Keeps}
use Rattle.air_symbolic.specs.Trees.{Tree, leaf_tree, add_tree, sub_tree, neg_tree, mul_tree, both, tree_term, term_of, AllValid, IsValidTree}
use Rattle.air_symbolic.specs.Nodes.{unfold_node, node_term, in_turn, tree_of, cached_degree, stated_degree, IsValidNode, NodeFits, WellFormed}
use Rattle.air_symbolic.specs.laws.Nodes.{valid_node-weaker, node_degree-same}
use Rattle.air_symbolic.specs.declared.pools.expr.SymbolicExpr.{SymbolicExpr}
use Rattle.air_symbolic.specs.declared.pools.expr.SymbolicExpr.TheVariants.{Leaf, Add, Sub, Neg, Mul}

-- ---- The elements of a list by their places

module _ {N : Type 0} where
  Some-is : {x y : N} → Some x ≡ Some y → x ≡ y
  Some-is e = cc

  -- the element at an index of a list with one element appended
  pub at_pushed : (xs : List N) (x k : N) (i : ℕ) → slice_get (xs ++ x ∷ []) i ≡ Some k → (slice_get xs i ≡ Some k) ⊎ ((i ≡ length xs) × (x ≡ k))
  at_pushed [] x k zero e = inr (refl, Some-is e)
  at_pushed [] x k (suc i) e = absurd (cc)
  at_pushed (y ∷ xs) x k zero e = inl e
  at_pushed (y ∷ xs) x k (suc i) e =
      ⊎_elim (λ (h : slice_get xs i ≡ Some k). inl h) (λ (h : (i ≡ length xs) × (x ≡ k)). inr (ap suc h.0, h.1)) (at_pushed xs x k i e)

  -- each index below the length has an element
  pub element_at : (xs : List N) (i : ℕ) → i < length xs → (x : N) × (slice_get xs i ≡ Some x)
  element_at [] i h = absurd (omega (arith, h))
  element_at (x ∷ xs) zero h = (x, refl)
  element_at (x ∷ xs) (suc i) h = element_at xs i (omega (arith, h))

  -- the list as the elements before an index, the element there, and those after it
  parted_at : (xs : List N) (i : ℕ) (x : N) → slice_get xs i ≡ Some x → xs ≡ (take i xs ++ x ∷ []) ++ drop (suc i) xs
  parted_at [] i x e = absurd (cc)
  parted_at (y ∷ ys) zero x e = ap (λ z. z ∷ ys) (Some-is e)
  parted_at (y ∷ ys) (suc i) x e = ap (λ zs. y ∷ zs) (parted_at ys i x e)

-- ---- The results of a step for nodes in order

module _ {A T : Type 0} (none : T) (step : (ℕ → T) → SymbolicExpr A → T) where
  -- the result for number i
  abbrev pub made_at : List (SymbolicExpr A) → ℕ → T
  made_at ns i = get_or (in_turn none step [] ns) i none

  in_turn-append : (before : List T) (xs ys : List (SymbolicExpr A)) → in_turn none step before (xs ++ ys) ≡ in_turn none step (in_turn none step before xs) ys
  in_turn-append before [] ys = refl
  in_turn-append before (x ∷ xs) ys = in_turn-append (before ++ step (λ i. get_or before i none) x ∷ []) xs ys

  pub length-in_turn : (before : List T) (ns : List (SymbolicExpr A)) → length (in_turn none step before ns) ≡ length before + length ns
  length-in_turn before [] = omega arith
  length-in_turn before (n ∷ ns) =
      let made = step (λ i. get_or before i none) n ∷ [] in
      omega (arith, length-in_turn (before ++ made) ns, length-append before made)

  in_turn-kept : (before : List T) (ns : List (SymbolicExpr A)) (i : ℕ) → i < length before → get_or (in_turn none step before ns) i none ≡ get_or before i none
  in_turn-kept before [] i h = refl
  in_turn-kept before (n ∷ ns) i h =
      let made = step (λ i. get_or before i none) n ∷ [] in
      in_turn-kept (before ++ made) ns i (omega (arith, h, length-append before made)) ∙ get_or_append_left before made none i h

  -- further nodes don't change the results for earlier numbers
  pub made-kept : (old more : List (SymbolicExpr A)) (i : ℕ) → i < length old → made_at (old ++ more) i ≡ made_at old i
  made-kept old more i h =
      ap (λ l. get_or l i none) (in_turn-append [] old more) ∙ in_turn-kept (in_turn none step [] old) more i (omega (arith, h, length-in_turn [] old))

  pub made-newest : (older : List (SymbolicExpr A)) (n : SymbolicExpr A) → made_at (older ++ n ∷ []) (length older) ≡ step (made_at older) n
  made-newest older n =
      ap (λ l. get_or l (length older) none) (in_turn-append [] older (n ∷ []))
      ∙ get_or_push (in_turn none step [] older) (step (made_at older) n) none (length older) (omega (arith, length-in_turn [] older))

  -- the result for a number below i needs only the nodes before i
  pub made-before : (ns : List (SymbolicExpr A)) (i x : ℕ) → x < i → i ≤ length ns → made_at (take i ns) x ≡ made_at ns x
  made-before ns i x h b =
      sym (made-kept (take i ns) (drop i ns) x (omega (arith, h, length-take-le i ns b))) ∙ ap (λ l. made_at l x) (take-append-drop i ns)

  -- the result for number i is the step of its node, over the results before it
  pub made-node : (ns : List (SymbolicExpr A)) (i : ℕ) (n : SymbolicExpr A) → slice_get ns i ≡ Some n → made_at ns i ≡ step (made_at (take i ns)) n
  made-node ns i n e =
      let here : length (take i ns) ≡ i = length-take-le i ns (omega (arith, slice_get_within ns i n e)) in
      ap (λ l. made_at l i) (parted_at ns i n e)
      ∙ made-kept (take i ns ++ n ∷ []) (drop (suc i) ns) i (omega (arith, here, length-append (take i ns) (n ∷ [])))
      ∙ ap (made_at (take i ns ++ n ∷ [])) (sym here)
      ∙ made-newest (take i ns) n

-- ---- Trees

-- earlier numbers keep their trees
pub tree_of-kept : {A : Type 0} (old more : List (SymbolicExpr A)) (i : ℕ) → i < length old → tree_of (old ++ more) i ≡ tree_of old i
tree_of-kept = made-kept None unfold_node

pub tree_of-newest : {A : Type 0} (older : List (SymbolicExpr A)) (n : SymbolicExpr A) → tree_of (older ++ n ∷ []) (length older) ≡ unfold_node (tree_of older) n
tree_of-newest = made-newest None unfold_node

pub tree_of-before : {A : Type 0} (ns : List (SymbolicExpr A)) (i x : ℕ) → x < i → i ≤ length ns → tree_of (take i ns) x ≡ tree_of ns x
tree_of-before = made-before None unfold_node

pub tree_of-node : {A : Type 0} (ns : List (SymbolicExpr A)) (i : ℕ) (n : SymbolicExpr A) → slice_get ns i ≡ Some n → tree_of ns i ≡ unfold_node (tree_of (take i ns)) n
tree_of-node = made-node None unfold_node

-- Two valid trees make a valid tree, whose term is made from theirs.
module _ {A : Type 0} (valid : A → Type 0) where
  pub both-valid : (node : Tree A → Tree A → Tree A)
      → ((t u : Tree A) → AllValid valid t → AllValid valid u → AllValid valid (node t u))
      → (o p : Option (Tree A)) → IsValidTree valid o → IsValidTree valid p → IsValidTree valid (both node o p)
  both-valid node joins (Some t) (Some u) h k = joins t u h k
  both-valid node joins (Some t) None h k = absurd k
  both-valid node joins None p h k = absurd h

  pub negative-valid : (o : Option (Tree A)) → IsValidTree valid o → IsValidTree valid (option_map neg_tree o)
  negative-valid (Some t) h = h
  negative-valid None h = absurd h

  module _ {F : Type 0} (f : A → Term F) where
    pub both-term : (node : Tree A → Tree A → Tree A) (term : Term F → Term F → Term F)
        → ((t u : Tree A) → tree_term f (node t u) ≡ term (tree_term f t) (tree_term f u))
        → (o p : Option (Tree A)) → IsValidTree valid o → IsValidTree valid p → term_of f (both node o p) ≡ term (term_of f o) (term_of f p)
    both-term node term is (Some t) (Some u) h k = is t u
    both-term node term is (Some t) None h k = absurd k
    both-term node term is None p h k = absurd h

    pub negative-term : (o : Option (Tree A)) → IsValidTree valid o → term_of f (option_map neg_tree o) ≡ neg_term (term_of f o)
    negative-term (Some t) h = refl
    negative-term None h = absurd h

  -- a valid optional tree is Some tree
  pub tree_there : (o : Option (Tree A)) → IsValidTree valid o → (t : Tree A) × (o ≡ Some t)
  tree_there (Some t) h = (t, refl)
  tree_there None h = absurd h

-- Every tree of well-formed nodes is valid.
module _ {A F : Type 0} (l : Leaves A F) where
  node_valid : (older : List (SymbolicExpr A)) → ((i : ℕ) → i < length older → IsValidTree l.valid (tree_of older i))
      → (n : SymbolicExpr A) → NodeFits l older n → IsValidTree l.valid (unfold_node (tree_of older) n)
  node_valid older ih (Leaf a) h = h.valid
  node_valid older ih (Add x y d) h = both-valid l.valid add_tree (λ t u p q. (p, q)) (tree_of older x) (tree_of older y) (ih x (h.below 0 x (omega arith))) (ih y (h.below 1 y (omega arith)))
  node_valid older ih (Sub x y d) h = both-valid l.valid sub_tree (λ t u p q. (p, q)) (tree_of older x) (tree_of older y) (ih x (h.below 0 x (omega arith))) (ih y (h.below 1 y (omega arith)))
  node_valid older ih (Neg x d) h = negative-valid l.valid (tree_of older x) (ih x (h.below 0 x (omega arith)))
  node_valid older ih (Mul x y d) h = both-valid l.valid mul_tree (λ t u p q. (p, q)) (tree_of older x) (tree_of older y) (ih x (h.below 0 x (omega arith))) (ih y (h.below 1 y (omega arith)))

  -- so the term of a node is made from its operands' terms
  pub unfold_node-term : (ns : List (SymbolicExpr A)) → ((i : ℕ) → i < length ns → IsValidTree l.valid (tree_of ns i))
      → (n : SymbolicExpr A) → NodeFits l ns n → term_of l.term (unfold_node (tree_of ns) n) ≡ node_term l.term (λ i. term_of l.term (tree_of ns i)) n
  unfold_node-term ns valid (Leaf a) h = refl
  unfold_node-term ns valid (Add x y d) h = both-term l.valid l.term add_tree add_term (λ t u. refl) (tree_of ns x) (tree_of ns y) (valid x (h.below 0 x (omega arith))) (valid y (h.below 1 y (omega arith)))
  unfold_node-term ns valid (Sub x y d) h = both-term l.valid l.term sub_tree sub_term (λ t u. refl) (tree_of ns x) (tree_of ns y) (valid x (h.below 0 x (omega arith))) (valid y (h.below 1 y (omega arith)))
  unfold_node-term ns valid (Neg x d) h = negative-term l.valid l.term (tree_of ns x) (valid x (h.below 0 x (omega arith)))
  unfold_node-term ns valid (Mul x y d) h = both-term l.valid l.term mul_tree mul_term (λ t u. refl) (tree_of ns x) (tree_of ns y) (valid x (h.below 0 x (omega arith))) (valid y (h.below 1 y (omega arith)))

  module _ (ns : List (SymbolicExpr A)) (wf : WellFormed l ns) where
    valid_below : (k i : ℕ) → i < k → i < length ns → IsValidTree l.valid (tree_of ns i)
    valid_below zero i h b = absurd (omega (arith, h))
    valid_below (suc k) i h b =
        let f : (n : SymbolicExpr A) × (slice_get ns i ≡ Some n) = element_at ns i b in
        let here : length (take i ns) ≡ i = length-take-le i ns (omega (arith, b)) in
        subst (IsValidTree l.valid) (sym (tree_of-node ns i f.0 f.1))
        (node_valid (take i ns)
        (λ x lt. subst (IsValidTree l.valid) (sym (tree_of-before ns i x (omega (arith, lt, here)) (omega (arith, b)))) (valid_below k x (omega (arith, lt, here, h)) (omega (arith, lt, here, b))))
        f.0 (wf.fits i f.0 f.1))

  pub tree_of-valid : (ns : List (SymbolicExpr A)) → WellFormed l ns → (i : ℕ) → i < length ns → IsValidTree l.valid (tree_of ns i)
  tree_of-valid ns wf i b = valid_below ns wf (i + 1) i (omega arith) b

-- If m agrees with l on valid leaves, they agree on trees, and nodes stay well formed.
module _ {A F : Type 0} (l m : Leaves A F) (k : Keeps l m) where
  tree_term-kept : (t : Tree A) → AllValid l.valid t → tree_term m.term t ≡ tree_term l.term t
  tree_term-kept (leaf_tree a) h = k.term a h
  tree_term-kept (add_tree t u) h = cc (tree_term-kept t h.0, tree_term-kept u h.1)
  tree_term-kept (sub_tree t u) h = cc (tree_term-kept t h.0, tree_term-kept u h.1)
  tree_term-kept (neg_tree t) h = cc (tree_term-kept t h)
  tree_term-kept (mul_tree t u) h = cc (tree_term-kept t h.0, tree_term-kept u h.1)

  pub term_of-kept : (t : Option (Tree A)) → IsValidTree l.valid t → term_of m.term t ≡ term_of l.term t
  term_of-kept (Some t) h = tree_term-kept t h
  term_of-kept None h = absurd h

  stated_degree-kept : (n : SymbolicExpr A) → IsValidNode (λ a. m.term a ≡ l.term a) n → stated_degree m n ≡ stated_degree l n
  stated_degree-kept (Leaf a) e = ap (degree_by cached_weight) e
  stated_degree-kept _ e = refl

  -- for nodes whose trees are valid
  module _ (ns : List (SymbolicExpr A)) (whole : (i : ℕ) → i < length ns → IsValidTree l.valid (tree_of ns i)) where
    cached_degree-kept : (i : ℕ) → i < length ns → cached_degree l ns i ≡ cached_degree m ns i
    cached_degree-kept i b = ap (degree_by cached_weight) (sym (term_of-kept (tree_of ns i) (whole i b)))

    NodeFits-kept : (n : SymbolicExpr A) → NodeFits l ns n → NodeFits m ns n
    NodeFits-kept n h =
        let same : IsValidNode (λ a. m.term a ≡ l.term a) n = valid_node-weaker l.valid _ k.term n h.valid in
        let stated : stated_degree m n ≡ stated_degree l n = stated_degree-kept n same in
        record {
          valid = valid_node-weaker l.valid m.valid k.valid n h.valid;
          below = h.below;
          degree =
              stated ∙ h.degree
              ∙ node_degree-same _ _ _ _ n (valid_node-weaker _ _ (λ a e. ap (degree_by cached_weight) (sym e)) n same) (λ j d b. cached_degree-kept _ (h.below j d b));
          in_range = subst (λ d. d < 2 ^ 64) (sym stated) h.in_range;
        }

  pub WellFormed-kept : (ns : List (SymbolicExpr A)) → WellFormed l ns → WellFormed m ns
  WellFormed-kept ns wf = record {
    fits = λ i n e.
        let within : i < length ns = slice_get_within ns i n e in
        let here : length (take i ns) ≡ i = length-take-le i ns (omega (arith, within)) in
        NodeFits-kept (take i ns)
        (λ x lt. subst (IsValidTree l.valid) (sym (tree_of-before ns i x (omega (arith, lt, here)) (omega (arith, within)))) (tree_of-valid l ns wf x (omega (arith, lt, here, within))))
        n (wf.fits i n e);
    once = wf.once;
  }

pub WellFormed-none : {A F : Type 0} (l : Leaves A F) → WellFormed l []
WellFormed-none l = record { fits = λ i n e. absurd (cc); once = λ i j n e. absurd (cc) }

-- Appending a node that fits and is new.
pub WellFormed-push : {A F : Type 0} (l : Leaves A F) (ns : List (SymbolicExpr A)) (n : SymbolicExpr A) → WellFormed l ns → NodeFits l ns n → ((i : ℕ) → slice_get ns i ≡ Some n → ⊥) → WellFormed l (ns ++ n ∷ [])
WellFormed-push l ns n wf fits absent = record {
  fits = λ i m e.
      ⊎_elim
      (λ (old : slice_get ns i ≡ Some m).
      subst (λ xs. NodeFits l xs m) (sym (take-append-le i ns (n ∷ []) (omega (arith, slice_get_within ns i m old)))) (wf.fits i m old))
      (λ (new : (i ≡ length ns) × (n ≡ m)).
      subst (λ j. NodeFits l (take j (ns ++ n ∷ [])) m) (sym new.0)
      (subst (λ xs. NodeFits l xs m) (sym (take-append_seam ns (n ∷ []))) (subst (NodeFits l ns) new.1 fits)))
      (at_pushed ns n m i e);
  once = λ i j m e f.
      ⊎_elim
      (λ (old : slice_get ns i ≡ Some m).
      ⊎_elim
      (λ (also : slice_get ns j ≡ Some m). wf.once i j m old also)
      (λ (new : (j ≡ length ns) × (n ≡ m)). absurd (absent i (old ∙ ap (λ (k : SymbolicExpr _). Some k) (sym new.1))))
      (at_pushed ns n m j f))
      (λ (new : (i ≡ length ns) × (n ≡ m)).
      ⊎_elim
      (λ (old : slice_get ns j ≡ Some m). absurd (absent j (old ∙ ap (λ (k : SymbolicExpr _). Some k) (sym new.1))))
      (λ (also : (j ≡ length ns) × (n ≡ m)). new.0 ∙ sym also.0)
      (at_pushed ns n m j f))
      (at_pushed ns n m i e);
}
