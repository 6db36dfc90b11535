-- The nodes of a pool as they are written.
use Rattle.std.proofs.Common.{◌≡◌, ℕ, suc, zero, ◌<◌, ◌≤◌, Bool, true, false, List, [], ◌∷◌, ◌++◌, length, All, Option, Some, None, option_map, unwrap_or, codes, refl, sym, ap, ap₂, subst, ◌∙◌, arith}
use Rattle.std.specs.Prelude.{⊤}
use Rattle.std.specs.List.{slice_get}
use Rattle.std.specs.Option.{is_some}
use Rattle.std.proofs.Math.ListN.{set}
use Rattle.std.proofs.lemmas.List.Elements.{All-nil}
use Rattle.serde_json.specs.Data.{Data}
use Rattle.air_symbolic.specs.Leaves.{Leaves}
use Rattle.air_symbolic.specs.Trees.{Tree, leaf_tree, add_tree, sub_tree, neg_tree, mul_tree, both, AllValid, IsValidTree}
use Rattle.air_symbolic.specs.Nodes.{unfold_node, tree_of, NodeFits, IsValidNode, stated_degree, OperandsBelow, IsNode}
use Rattle.air_symbolic.specs.laws.Nodes.{of_one, of_two}
use Rattle.air_symbolic.specs.laws.Numbers.{tree_of-valid}
use Rattle.air_symbolic.specs.laws.Sharing.{shared}
use Rattle.air_symbolic.specs.Pools.{Pool, IsPool, tree_at}
use Rattle.air_symbolic.specs.declared.pools.expr.SymbolicExpr.{SymbolicExpr}
use Rattle.air_symbolic.specs.declared.pools.expr.SymbolicExpr.TheVariants.{Leaf, Add, Sub, Neg, Mul}
use Rattle.air_json.specs.Spelling.{case_data}
use Rattle.air_json.specs.Nodes.{Kind}
use Rattle.air_json.specs.Unshared.{map_leaves, seen_at, degree, degree_of, WireLaws}
use Rattle.air_json.specs.Written.{IsAmong, two_data, one_data, IsWrittenNode}
use Rattle.air_json.specs.Writing.{Placed, IsWritable, IsNodeValue, steps_of}
use Rattle.air_json.proofs.SeenTrees.{map_leaves-both, map_leaves-negative, seen_there, degree_is_seen}
use Rattle.air_json.proofs.Left.{node_tree, within_last, work, work_pop, look_less}
use Rattle.air_json.proofs.Ordered.{HasOperands}
use Rattle.air_json.proofs.Progress.{IsTable, IsOneToOne, Progress, skips, looks, is_next, writes}

-- ---- from the table of places to the list

module _ {A S F : Type 0} (kind : Kind S F) (seen : A → S) (f : ℕ → Tree S) (size : ℕ) (done : List (Tree S)) (places : List (Option ℕ)) (t : IsTable f size done places) where
  stands_at : (x : ℕ) (p : Placed places x) → slice_get done p.0 ≡ Some (f x)
  stands_at x p = t.placed x p.0 p.1

  -- an operand in the list has a place
  placed_at : (x : ℕ) → x < size → IsAmong done (f x) → Placed places x
  placed_at x h s = by_entry (entry places x (omega (arith, t.len, h)))
    where
      entry : {X : Type 0} (xs : List X) (n : ℕ) → n < length xs → (y : X) × (slice_get xs n ≡ Some y)
      entry [] n h = absurd (omega arith)
      entry (y ∷ xs) zero h = (y, refl)
      entry (y ∷ xs) (suc n) h = entry xs n (omega (arith, h))

      by_entry : (o : Option ℕ) × (slice_get places x ≡ Some o) → Placed places x
      by_entry (None, e) = absurd (t.missing x e s)
      by_entry (Some i, e) = (i, e)

  both_placed : (n x y : ℕ) → n < size → All (λ z. z < n) (x ∷ y ∷ []) → IsAmong done (f x) × IsAmong done (f y) → All (Placed places) (x ∷ y ∷ [])
  both_placed n x y h below has =
      let low = below 0 x (omega arith) in
      let other = below 1 y (omega arith) in
      of_two (Placed places) x y (placed_at x (omega (arith, low, h)) has.0) (placed_at y (omega (arith, other, h)) has.1)

  ready_of : (valid : A → Type 0) (n : ℕ) (node : SymbolicExpr A) → n < size → OperandsBelow n node → IsValidNode valid node → HasOperands done (node_tree seen f node) → IsWritable valid places node
  unfolding HasOperands
  ready_of valid n (Leaf a) h below leaf has = (leaf, All-nil (Placed places))
  ready_of valid n (Add x y d) h below leaf has = (leaf, both_placed n x y h below has)
  ready_of valid n (Sub x y d) h below leaf has = (leaf, both_placed n x y h below has)
  ready_of valid n (Neg x d) h below leaf has = (leaf, of_one (Placed places) x (placed_at x (let low = below 0 x (omega arith) in omega (arith, low, h)) has))
  ready_of valid n (Mul x y d) h below leaf has = (leaf, both_placed n x y h below has)

  value_of : (l : Leaves A F) (node : SymbolicExpr A) (d : Data) → stated_degree l node ≡ degree kind.term (node_tree seen f node) → IsNodeValue kind seen places node d → IsWrittenNode kind done d (node_tree seen f node)
  value_of l (Leaf a) d e h = h
  value_of l (Add x y n) d e (i, j, is) =
      ((i.0, stands_at x i), (j.0, stands_at y j), is ∙ ap (λ (k : ℕ). case_data (codes "Add") (two_data k i.0 j.0)) e)
  value_of l (Sub x y n) d e (i, j, is) =
      ((i.0, stands_at x i), (j.0, stands_at y j), is ∙ ap (λ (k : ℕ). case_data (codes "Sub") (two_data k i.0 j.0)) e)
  value_of l (Neg x n) d e (i, is) = ((i.0, stands_at x i), is ∙ ap (λ (k : ℕ). case_data (codes "Neg") (one_data k i.0)) e)
  value_of l (Mul x y n) d e ((i, j, is), small) =
      (((i.0, stands_at x i), (j.0, stands_at y j), is ∙ ap (λ (k : ℕ). case_data (codes "Mul") (two_data k i.0 j.0)) e), omega (arith, e, small))

-- ---- pools

-- the tree of number i, and z if there is none
abbrev pub tree_or : {U A S : Type 0} → (U → A → S) → Tree S → Pool U A → ℕ → Tree S
tree_or seen z p i = unwrap_or (seen_at seen p i) z

module _ {U A S F : Type 0} (reads : U → Leaves A F) (seen : U → A → S) (z : Tree S) (p : Pool U A) (w : IsPool reads p) where
  abbrev tree : ℕ → Tree S
  tree = tree_or seen z p

  pub is_there : (i : ℕ) → i < length p.nodes → seen_at seen p i ≡ Some (tree i)
  is_there i h = let t = seen_there reads seen p w i h in t.1 ∙ ap (λ o. Some (unwrap_or o z)) (sym t.1)

  over_two : (node : Tree A → Tree A → Tree A) (made : Tree S → Tree S → Tree S) → ((t u : Tree A) → map_leaves (seen p.base) (node t u) ≡ made (map_leaves (seen p.base) t) (map_leaves (seen p.base) u)) → (x y : ℕ) → x < length p.nodes → y < length p.nodes
      → option_map (map_leaves (seen p.base)) (both node (tree_at p x) (tree_at p y)) ≡ Some (made (tree x) (tree y))
  over_two node made is x y h k =
      map_leaves-both (seen p.base) node made is (tree_at p x) (tree_at p y) ∙ ap₂ (both made) (is_there x h) (is_there y k)

  over_node : (node : SymbolicExpr A) → NodeFits (reads p.base) p.nodes node → option_map (map_leaves (seen p.base)) (unfold_node (tree_of p.nodes) node) ≡ Some (node_tree (seen p.base) tree node)
  over_node (Leaf a) h = refl
  over_node (Add x y d) h = over_two add_tree add_tree (λ t u. refl) x y (h.below 0 x (omega arith)) (h.below 1 y (omega arith))
  over_node (Sub x y d) h = over_two sub_tree sub_tree (λ t u. refl) x y (h.below 0 x (omega arith)) (h.below 1 y (omega arith))
  over_node (Neg x d) h = map_leaves-negative (seen p.base) (tree_at p x) ∙ ap (option_map neg_tree) (is_there x (h.below 0 x (omega arith)))
  over_node (Mul x y d) h = over_two mul_tree mul_tree (λ t u. refl) x y (h.below 0 x (omega arith)) (h.below 1 y (omega arith))

  -- the tree of a number is that of its node
  pub node_there : (n : ℕ) (node : SymbolicExpr A) → IsNode (reads p.base) p.nodes n node → seen_at seen p n ≡ Some (node_tree (seen p.base) tree node)
  node_there n node is = ap (option_map (map_leaves (seen p.base))) is.tree ∙ over_node node is.fits

  pub node_seen : (n : ℕ) (node : SymbolicExpr A) → IsNode (reads p.base) p.nodes n node → tree n ≡ node_tree (seen p.base) tree node
  node_seen n node is = ap (λ o. unwrap_or o z) (node_there n node is)

-- the forms of the trees, by which steps are counted
abbrev pub form_at : {U A : Type 0} → Pool U A → ℕ → Tree ⊤
form_at p i = tree_or (λ u a. tt) (leaf_tree tt) p i

pub next_smaller : {U A : Type 0} (p : Pool U A) (steps rest : List (ℕ × Bool)) (s : ℕ × Bool) → steps ≡ rest ++ s ∷ [] → work (form_at p) rest < work (form_at p) steps
next_smaller p steps rest s e = subst (λ (l : List (ℕ × Bool)). work (form_at p) rest < work (form_at p) l) (sym e) (work_pop (form_at p) rest s)

pub looks_smaller : {U A F : Type 0} (reads : U → Leaves A F) (p : Pool U A) (w : IsPool reads p) (steps rest more : List (ℕ × Bool)) (s : ℕ × Bool) (node : SymbolicExpr A) → steps ≡ rest ++ s ∷ [] → s.1 ≡ false → IsNode (reads p.base) p.nodes s.0 node → more ≡ rest ++ steps_of s.0 node → work (form_at p) more < work (form_at p) steps
looks_smaller reads p w steps rest more s node e b is m =
    let same : steps ≡ rest ++ (s.0, false) ∷ [] = e ∙ ap (λ (c : Bool). rest ++ (s.0, c) ∷ []) b in
    subst (λ (l : List (ℕ × Bool)). work (form_at p) l < work (form_at p) steps) (sym m)
    (subst (λ (l : List (ℕ × Bool)). work (form_at p) (rest ++ steps_of s.0 node) < work (form_at p) l) (sym same)
    (look_less (form_at p) (λ a. tt) rest s.0 node (node_seen reads (λ u a. tt) (leaf_tree tt) p w s.0 node is)))

module _ {U A S F : Type 0} (reads : U → Leaves A F) (grows : U → U → Type 0) (seen : U → A → S) (kind : Kind S F) (laws : WireLaws reads grows seen kind.term) where
  over_one : (u : U) (t v : Tree A) → AllValid (reads u).valid t → AllValid (reads u).valid v → map_leaves (seen u) t ≡ map_leaves (seen u) v → t ≡ v
  over_one u (leaf_tree a) (leaf_tree b) h k e =
      let l : seen u a ≡ seen u b = cc in
      ap (λ (x : A). leaf_tree x) (laws.one u a b h k l)
  over_one u (add_tree t v) (add_tree x y) h k e =
      let p : t ≡ x = over_one u t x h.0 k.0 (cc) in let q : v ≡ y = over_one u v y h.1 k.1 (cc) in cc
  over_one u (sub_tree t v) (sub_tree x y) h k e =
      let p : t ≡ x = over_one u t x h.0 k.0 (cc) in let q : v ≡ y = over_one u v y h.1 k.1 (cc) in cc
  over_one u (neg_tree t) (neg_tree x) h k e =
      let p : t ≡ x = over_one u t x h k (cc) in cc
  over_one u (mul_tree t v) (mul_tree x y) h k e =
      let p : t ≡ x = over_one u t x h.0 k.0 (cc) in let q : v ≡ y = over_one u v y h.1 k.1 (cc) in cc
  over_one u _ _ h k e = absurd (cc)

  tree_one : (u : U) (o r : Option (Tree A)) → IsValidTree (reads u).valid o → IsValidTree (reads u).valid r → option_map (map_leaves (seen u)) o ≡ option_map (map_leaves (seen u)) r → o ≡ r
  tree_one u (Some t) (Some v) h k e =
      let same : map_leaves (seen u) t ≡ map_leaves (seen u) v = cc in ap (λ (x : Tree A). Some x) (over_one u t v h k same)
  tree_one u (Some t) None h k e = absurd k
  tree_one u None r h k e = absurd h

  module _ (z : Tree S) (p : Pool U A) (w : IsPool reads p) where
    abbrev trees : ℕ → Tree S
    trees = tree_or seen z p

    -- no tree has two numbers
    seen_one : IsOneToOne trees (length p.nodes)
    seen_one n m h k e =
        shared (reads p.base) p.nodes w.nodes n m h k
        (tree_one p.base (tree_at p n) (tree_at p m) (tree_of-valid (reads p.base) p.nodes w.nodes n h) (tree_of-valid (reads p.base) p.nodes w.nodes m k)
        (is_there reads seen z p w n h ∙ ap (λ (t : Tree S). Some t) e ∙ sym (is_there reads seen z p w m k)))

    -- ---- the loop, at its next step

    module _ (size : ℕ) (root : Tree S) (places : List (Option ℕ)) (ds : List Data) where
      abbrev pub At : List (ℕ × Bool) → Type 0
      At steps = Progress kind trees size root steps places ds

      pub next_within : (steps rest : List (ℕ × Bool)) (s : ℕ × Bool) → steps ≡ rest ++ s ∷ [] → At steps → s.0 < size
      next_within steps rest s e h = within_last size rest s (subst At e h).within

      pub next_skips : (steps rest : List (ℕ × Bool)) (s : ℕ × Bool) (o : Option ℕ) → steps ≡ rest ++ s ∷ [] → At steps → slice_get places s.0 ≡ Some o → is_some o ≡ true → At rest
      next_skips steps rest s (Some i) e h at b = skips kind trees size root rest places ds s.0 i s.1 (subst At e h) at
      next_skips steps rest s None e h at b = absurd cc

      look_at : (rest : List (ℕ × Bool)) (n : ℕ) (b : Bool) → b ≡ false → At (rest ++ (n, b) ∷ []) → At (rest ++ (n, false) ∷ [])
      look_at rest n b e h = subst (λ (c : Bool). At (rest ++ (n, c) ∷ [])) e h

      write_at : (rest : List (ℕ × Bool)) (n : ℕ) (b : Bool) → b ≡ true → At (rest ++ (n, b) ∷ []) → At (rest ++ (n, true) ∷ [])
      write_at rest n b e h = subst (λ (c : Bool). At (rest ++ (n, c) ∷ [])) e h

      pub next_looks : (steps rest more : List (ℕ × Bool)) (s : ℕ × Bool) (node : SymbolicExpr A) → steps ≡ rest ++ s ∷ [] → s.1 ≡ false → IsNode (reads p.base) p.nodes s.0 node → more ≡ rest ++ steps_of s.0 node → At steps → At more
      next_looks steps rest more s node e b is m h =
          subst At (sym m)
          (looks kind trees size (seen p.base) root rest places ds s.0 node (node_seen reads seen z p w s.0 node is) is.below
          (look_at rest s.0 s.1 b (subst At e h)))

      -- at a step that writes a node, its operands have been written
      pub next_ready : (steps rest : List (ℕ × Bool)) (s : ℕ × Bool) (node : SymbolicExpr A) → steps ≡ rest ++ s ∷ [] → s.1 ≡ true → IsNode (reads p.base) p.nodes s.0 node → At steps → IsWritable (reads p.base).valid places node
      next_ready steps rest s node e b is g =
          let h : At (rest ++ (s.0, true) ∷ []) = write_at rest s.0 s.1 b (subst At e g) in
          ready_of kind (seen p.base) trees size h.done places h.table (reads p.base).valid s.0 node (within_last size rest (s.0, true) h.within) is.below
          is.fits.valid
          (subst (HasOperands h.done) (node_seen reads seen z p w s.0 node is) (is_next kind trees size root rest places ds s.0 h).0)

      node_written : (steps : List (ℕ × Bool)) (n : ℕ) (node : SymbolicExpr A) (d : Data) → IsNode (reads p.base) p.nodes n node → (h : At steps) → IsNodeValue kind (seen p.base) places node d → IsWrittenNode kind h.done d (trees n)
      node_written steps n node d is h v =
          let stated : stated_degree (reads p.base) node ≡ degree kind.term (node_tree (seen p.base) trees node) =
          degree_is_seen reads grows seen kind.term laws p n (stated_degree (reads p.base) node) (sym is.degree) ∙ ap (degree_of kind.term) (node_there reads seen z p w n node is) in
          subst (IsWrittenNode kind h.done d) (sym (node_seen reads seen z p w n node is))
          (value_of kind (seen p.base) trees size h.done places h.table (reads p.base) node d stated v)

      -- so the trees of the first numbers differ, too
      first_ones : size ≤ length p.nodes → IsOneToOne trees (length p.nodes) → IsOneToOne trees size
      first_ones le h n m x y e = h n m (omega (arith, le, x)) (omega (arith, le, y)) e

      pub next_writes : (steps rest : List (ℕ × Bool)) (s : ℕ × Bool) (node : SymbolicExpr A) (o : Option ℕ) (d : Data) → size ≤ length p.nodes → steps ≡ rest ++ s ∷ [] → s.1 ≡ true → slice_get places s.0 ≡ Some o → is_some o ≡ false → IsNode (reads p.base) p.nodes s.0 node → IsNodeValue kind (seen p.base) places node d → At steps
          → Progress kind trees size root rest (set places s.0 (Some (length ds))) (ds ++ d ∷ [])
      next_writes steps rest s node (Some i) d le e b at q is v g = absurd cc
      next_writes steps rest s node None d le e b at q is v g =
          let h : At (rest ++ (s.0, true) ∷ []) = write_at rest s.0 s.1 b (subst At e g) in
          writes kind trees size root rest places ds s.0 d (first_ones le seen_one) h at (node_written (rest ++ (s.0, true) ∷ []) s.0 node d is h v)
