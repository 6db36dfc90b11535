-- The value written for a tree is a list of that tree, and only one value is written for it.
use Rattle.std.proofs.Common.{◌≡◌, ℕ, suc, zero, ◌+◌, ◌≤◌, max, List, [], ◌∷◌, ◌++◌, append_assoc, length, length-append, Option, Some, codes, refl, sym, ap, ap₂, subst, ◌∙◌, arith, ◌⊎◌, inl, inr, ⊎_elim}
use Rattle.std.specs.List.{slice_get}
use Rattle.serde_json.specs.Data.{Data, array}
use Rattle.serde_json.specs.Find.{as_array}
use Rattle.serde_json.specs.View.{items_of}
use Rattle.air_symbolic.specs.Trees.{Tree, leaf_tree, add_tree, sub_tree, neg_tree, mul_tree}
use Rattle.air_json.specs.Spelling.{case_data}
use Rattle.air_json.specs.Unshared.{degree}
use Rattle.air_json.specs.Nodes.{Kind, KindLaws}
use Rattle.air_json.specs.NodeLists.{SpellsNode, AreNodes, IsList}
use Rattle.air_json.specs.laws.Lists.{one_tree}
use Rattle.air_json.specs.Written.{subtrees, IsAmong, Adds, two_data, one_data, WritesTwo, WritesOne, IsWrittenNode, AreWritten, IsWritten}

-- ---- places

module _ {X : Type 0} where
  pub at_push : (xs : List X) (x : X) → slice_get (xs ++ x ∷ []) (length xs) ≡ Some x
  at_push [] x = refl
  at_push (y ∷ xs) x = at_push xs x

  pub at_more : (xs ys : List X) (i : ℕ) (x : X) → slice_get xs i ≡ Some x → slice_get (xs ++ ys) i ≡ Some x
  at_more [] ys i x h = absurd cc
  at_more (y ∷ xs) ys zero x h = h
  at_more (y ∷ xs) ys (suc i) x h = at_more xs ys i x h

  pub push_cases : (xs : List X) (y : X) (i : ℕ) (x : X) → slice_get (xs ++ y ∷ []) i ≡ Some x → (slice_get xs i ≡ Some x) ⊎ ((i ≡ length xs) × (y ≡ x))
  push_cases [] y zero x h = inr (refl, cc)
  push_cases [] y (suc i) x h = absurd cc
  push_cases (z ∷ xs) y zero x h = inl h
  push_cases (z ∷ xs) y (suc i) x h =
      ⊎_elim
      (λ (l : slice_get xs i ≡ Some x). inl l)
      (λ (r : (i ≡ length xs) × (y ≡ x)). inr (ap (λ (n : ℕ). suc n) r.0, r.1))
      (push_cases xs y i x h)

  pub among_more : (xs ys : List X) (x : X) → IsAmong xs x → IsAmong (xs ++ ys) x
  among_more xs ys x h = (h.0, at_more xs ys h.0 x h.1)

  pub among_push : (xs : List X) (x : X) → IsAmong (xs ++ x ∷ []) x
  among_push xs x = (length xs, at_push xs x)

  pub among_cons : (y : X) (xs : List X) (x : X) → IsAmong (y ∷ xs) x → (y ≡ x) ⊎ IsAmong xs x
  among_cons y xs x (zero, h) = inl cc
  among_cons y xs x (suc i, h) = inr (i, h)

  pub among_either : (xs ys : List X) (x : X) → IsAmong (xs ++ ys) x → IsAmong xs x ⊎ IsAmong ys x
  among_either [] ys x h = inr h
  among_either (y ∷ xs) ys x (zero, h) = inl (zero, h)
  among_either (y ∷ xs) ys x (suc i, h) =
      ⊎_elim
      (λ (l : IsAmong xs x). inl (suc l.0, l.1))
      (λ (r : IsAmong ys x). inr r)
      (among_either xs ys x (i, h))

  pub pushed_either : (xs : List X) (y x : X) → IsAmong (xs ++ y ∷ []) x → IsAmong xs x ⊎ (y ≡ x)
  pushed_either xs y x h =
      ⊎_elim
      (λ (l : slice_get xs h.0 ≡ Some x). inl (h.0, l))
      (λ (r : (h.0 ≡ length xs) × (y ≡ x)). inr r.1)
      (push_cases xs y h.0 x h.1)

  -- no element has two places
  abbrev pub Once : List X → Type 0
  Once xs = (x : X) (i j : ℕ) → slice_get xs i ≡ Some x → slice_get xs j ≡ Some x → i ≡ j

  nothing_twice : Once []
  nothing_twice x i j a b = absurd cc

  once_push : (xs : List X) (y : X) → Once xs → (IsAmong xs y → ⊥) → Once (xs ++ y ∷ [])
  once_push xs y once not x i j h k =
      ⊎_elim
      (λ (a : slice_get xs i ≡ Some x).
      ⊎_elim
      (λ (b : slice_get xs j ≡ Some x). once x i j a b)
      (λ (b : (j ≡ length xs) × (y ≡ x)). absurd (not (i, a ∙ ap (λ (z : X). Some z) (sym b.1))))
      (push_cases xs y j x k))
      (λ (a : (i ≡ length xs) × (y ≡ x)).
      ⊎_elim
      (λ (b : slice_get xs j ≡ Some x). absurd (not (j, b ∙ ap (λ (z : X). Some z) (sym a.1))))
      (λ (b : (j ≡ length xs) × (y ≡ x)). a.0 ∙ sym b.0)
      (push_cases xs y j x k))
      (push_cases xs y i x h)

  once_front : (xs ys : List X) → Once (xs ++ ys) → Once xs
  once_front xs ys once x i j h k = once x i j (at_more xs ys i x h) (at_more xs ys j x k)

  -- ---- without repeats

  adds_once : (done xs all : List X) → Once done → Adds done xs all → Once all
  unfolding Adds
  adds_once done [] all once h = subst Once (sym h) once
  adds_once done (x ∷ xs) all once (inl h) = adds_once done xs all once h.1
  adds_once done (x ∷ xs) all once (inr h) = adds_once (done ++ x ∷ []) xs all (once_push done x once h.0) h.1

  adds_same : (done xs a b : List X) → Adds done xs a → Adds done xs b → a ≡ b
  unfolding Adds
  adds_same done [] a b h k = h ∙ sym k
  adds_same done (x ∷ xs) a b (inl h) (inl k) = adds_same done xs a b h.1 k.1
  adds_same done (x ∷ xs) a b (inl h) (inr k) = absurd (k.0 h.0)
  adds_same done (x ∷ xs) a b (inr h) (inl k) = absurd (h.0 k.0)
  adds_same done (x ∷ xs) a b (inr h) (inr k) = adds_same (done ++ x ∷ []) xs a b h.1 k.1

  adds_split : (done xs ys all : List X) → Adds done (xs ++ ys) all → (mid : List X) × Adds done xs mid × Adds mid ys all
  unfolding Adds
  adds_split done [] ys all h = (done, refl, h)
  adds_split done (x ∷ xs) ys all (inl h) =
      let r = adds_split done xs ys all h.1 in (r.0, inl (h.0, r.1), r.2)
  adds_split done (x ∷ xs) ys all (inr h) =
      let r = adds_split (done ++ x ∷ []) xs ys all h.1 in (r.0, inr (h.0, r.1), r.2)

  -- each element was in `done` or in xs
  adds_from : (done xs all : List X) (y : X) → Adds done xs all → IsAmong all y → IsAmong done y ⊎ IsAmong xs y
  unfolding Adds
  adds_from done [] all y h k = inl (subst (λ (l : List X). IsAmong l y) h k)
  adds_from done (x ∷ xs) all y (inl h) k =
      ⊎_elim
      (λ (l : IsAmong done y). inl l)
      (λ (r : IsAmong xs y). inr (suc r.0, r.1))
      (adds_from done xs all y h.1 k)
  adds_from done (x ∷ xs) all y (inr h) k =
      ⊎_elim
      (λ (l : IsAmong (done ++ x ∷ []) y).
      ⊎_elim (λ (m : IsAmong done y). inl m) (λ (e : x ≡ y). inr (zero, ap (λ (z : X). Some z) e)) (pushed_either done x y l))
      (λ (r : IsAmong xs y). inr (suc r.0, r.1))
      (adds_from (done ++ x ∷ []) xs all y h.1 k)

-- ---- the root is last

-- the subtrees of the operands
abbrev pub parts : {S : Type 0} → Tree S → List (Tree S)
parts (leaf_tree a) = []
parts (add_tree t u) = subtrees t ++ subtrees u
parts (sub_tree t u) = subtrees t ++ subtrees u
parts (neg_tree t) = subtrees t
parts (mul_tree t u) = subtrees t ++ subtrees u

module _ {S : Type 0} where
  pub parts_root : (t : Tree S) → subtrees t ≡ parts t ++ t ∷ []
  parts_root (leaf_tree a) = refl
  parts_root (add_tree t u) = refl
  parts_root (sub_tree t u) = refl
  parts_root (neg_tree t) = refl
  parts_root (mul_tree t u) = refl

  abbrev count : Tree S → ℕ
  count t = length (subtrees t)

  one_longer : (t : Tree S) → count t ≡ suc (length (parts t))
  one_longer t = ap length (parts_root t) ∙ length-append (parts t) (t ∷ []) ∙ plus_one (length (parts t))
    where
      plus_one : (n : ℕ) → n + 1 ≡ suc n
      plus_one n = omega arith

  -- a part of an operand has no more subtrees than both operands together
  smaller_of_two : (t u x : Tree S) → ((x : Tree S) → IsAmong (subtrees t) x → count x ≤ count t)
      → ((x : Tree S) → IsAmong (subtrees u) x → count x ≤ count u) → IsAmong (subtrees t ++ subtrees u) x
      → count x ≤ length (subtrees t ++ subtrees u)
  smaller_of_two t u x left right h =
      ⊎_elim
      (λ (l : IsAmong (subtrees t) x). omega (arith, left x l, length-append (subtrees t) (subtrees u)))
      (λ (r : IsAmong (subtrees u) x). omega (arith, right x r, length-append (subtrees t) (subtrees u)))
      (among_either (subtrees t) (subtrees u) x h)

  within : (t x : Tree S) → (IsAmong (parts t) x → count x ≤ length (parts t)) → IsAmong (subtrees t) x → count x ≤ count t
  within t x part h =
      ⊎_elim
      (λ (l : IsAmong (parts t) x). omega (arith, part l, one_longer t))
      (λ (e : t ≡ x). subst (λ (y : Tree S). count y ≤ count t) e (omega arith))
      (pushed_either (parts t) t x (subst (λ (l : List (Tree S)). IsAmong l x) (parts_root t) h))

  none : (x : Tree S) → IsAmong [] x → ⊥
  none x h = absurd (elim_none h.0 h.1)
    where
      elim_none : (i : ℕ) → slice_get [] i ≡ Some x → ⊥
      elim_none i e = cc

  small : (t x : Tree S) → IsAmong (subtrees t) x → count x ≤ count t
  small (leaf_tree a) x h = within (leaf_tree a) x (λ l. absurd (none x l)) h
  small (add_tree t u) x h = within (add_tree t u) x (smaller_of_two t u x (small t) (small u)) h
  small (sub_tree t u) x h = within (sub_tree t u) x (smaller_of_two t u x (small t) (small u)) h
  small (neg_tree t) x h = within (neg_tree t) x (small t x) h
  small (mul_tree t u) x h = within (mul_tree t u) x (smaller_of_two t u x (small t) (small u)) h

  part_small : (t x : Tree S) → IsAmong (parts t) x → count x ≤ length (parts t)
  part_small (leaf_tree a) x h = absurd (none x h)
  part_small (add_tree t u) x h = smaller_of_two t u x (small t) (small u) h
  part_small (sub_tree t u) x h = smaller_of_two t u x (small t) (small u) h
  part_small (neg_tree t) x h = small t x h
  part_small (mul_tree t u) x h = smaller_of_two t u x (small t) (small u) h

  -- no tree is a part of its operands
  no_part : (t : Tree S) → IsAmong (parts t) t → ⊥
  no_part t h = absurd (omega (arith, part_small t t h, one_longer t))

  root_last : (t : Tree S) (all : List (Tree S)) → Adds [] (subtrees t) all → (before : List (Tree S)) × (all ≡ before ++ t ∷ [])
  unfolding Adds
  root_last t all h = at_root (adds_split [] (parts t) (t ∷ []) all (subst (λ (l : List (Tree S)). Adds [] l all) (parts_root t) h))
    where
      at_root : (mid : List (Tree S)) × Adds [] (parts t) mid × Adds mid (t ∷ []) all → (before : List (Tree S)) × (all ≡ before ++ t ∷ [])
      at_root (mid, first, inl last) = absurd (⊎_elim (λ (l : IsAmong [] t). none t l) (λ (r : IsAmong (parts t) t). no_part t r) (adds_from [] (parts t) mid t first last.0))
      at_root (mid, first, inr last) = (mid, last.1)

module _ {S F : Type 0} (kind : Kind S F) (laws : KindLaws kind) where
  -- ---- the written value is a list of nodes

  written_node : (before : List (Tree S)) (d : Data) (t : Tree S) → IsWrittenNode kind before d t → SpellsNode kind before d t
  written_node before d (leaf_tree a) h = (h.0, h.1, laws.written h.0 a h.2)
  written_node before d (add_tree t u) (x, y, is) =
      (two_data (max (degree kind.term t) (degree kind.term u)) x.0 y.0, is, (refl, (x.0, refl, x.1), (y.0, refl, y.1)))
  written_node before d (sub_tree t u) (x, y, is) =
      (two_data (max (degree kind.term t) (degree kind.term u)) x.0 y.0, is, (refl, (x.0, refl, x.1), (y.0, refl, y.1)))
  written_node before d (neg_tree t) (x, is) = (one_data (degree kind.term t) x.0, is, (refl, (x.0, refl, x.1)))
  written_node before d (mul_tree t u) ((x, y, is), small) =
      ((two_data (degree kind.term t + degree kind.term u) x.0 y.0, is, (refl, (x.0, refl, x.1), (y.0, refl, y.1))), small)

  written_nodes : (before : List (Tree S)) (ds : List Data) (ts : List (Tree S)) → AreWritten kind before ds ts → AreNodes kind before (items_of ds) ts
  unfolding AreWritten
  written_nodes before [] [] h = h
  written_nodes before [] (t ∷ ts) h = absurd h
  written_nodes before (d ∷ ds) [] h = absurd h
  written_nodes before (d ∷ ds) (t ∷ ts) h = (written_node before d t h.0, written_nodes (before ++ t ∷ []) ds ts h.1)

  pub written_list : (d : Data) (o : Option (Tree S)) → IsWritten kind d o → IsList kind d o
  written_list d o h =
      let last = root_last h.root h.of.trees h.of.order in
      record {
        items = items_of h.items;
        before = last.0;
        root = h.root;
        tree = h.tree;
        is = ap as_array h.is;
        nodes = subst (AreNodes kind [] (items_of h.items)) last.1 (written_nodes [] h.items h.of.trees h.of.nodes);
      }

  -- ---- only one value is written

  one_two : (name : List ℕ) (before : List (Tree S)) (t u : Tree S) (n : ℕ) (d e : Data) → Once before → WritesTwo name before t u n d → WritesTwo name before t u n e → d ≡ e
  one_two name before t u n d e once (x, y, is) (v, w, also) =
      is ∙ ap₂ (λ (i j : ℕ). case_data name (two_data n i j)) (once t x.0 v.0 x.1 v.1) (once u y.0 w.0 y.1 w.1) ∙ sym also

  one_one : (name : List ℕ) (before : List (Tree S)) (t : Tree S) (n : ℕ) (d e : Data) → Once before → WritesOne name before t n d → WritesOne name before t n e → d ≡ e
  one_one name before t n d e once (x, is) (v, also) =
      is ∙ ap (λ (i : ℕ). case_data name (one_data n i)) (once t x.0 v.0 x.1 v.1) ∙ sym also

  one_node : (before : List (Tree S)) (d e : Data) (t : Tree S) → Once before → IsWrittenNode kind before d t → IsWrittenNode kind before e t → d ≡ e
  one_node before d e (leaf_tree a) once h k = h.1 ∙ ap (case_data (codes "Leaf")) (laws.once h.0 k.0 a h.2 k.2) ∙ sym k.1
  one_node before d e (add_tree t u) once h k = one_two (codes "Add") before t u _ d e once h k
  one_node before d e (sub_tree t u) once h k = one_two (codes "Sub") before t u _ d e once h k
  one_node before d e (neg_tree t) once h k = one_one (codes "Neg") before t _ d e once h k
  one_node before d e (mul_tree t u) once h k = one_two (codes "Mul") before t u _ d e once h.0 k.0

  one_items : (before : List (Tree S)) (ds es : List Data) (ts : List (Tree S)) → Once (before ++ ts) → AreWritten kind before ds ts → AreWritten kind before es ts → ds ≡ es
  unfolding AreWritten
  one_items before [] [] [] once h k = refl
  one_items before [] (e ∷ es) [] once h k = absurd k
  one_items before [] es (t ∷ ts) once h k = absurd h
  one_items before (d ∷ ds) es [] once h k = absurd h
  one_items before (d ∷ ds) [] (t ∷ ts) once h k = absurd k
  one_items before (d ∷ ds) (e ∷ es) (t ∷ ts) once h k =
      ap₂ (λ (x : Data) (xs : List Data). x ∷ xs)
      (one_node before d e t (once_front before (t ∷ ts) once) h.0 k.0)
      (one_items (before ++ t ∷ []) ds es ts (subst Once (sym (append_assoc before (t ∷ []) ts)) once) h.1 k.1)

  same_items : (ds es : List Data) (ts us : List (Tree S)) → ts ≡ us → Once ts → AreWritten kind [] ds ts → AreWritten kind [] es us → ds ≡ es
  same_items ds es ts us same once h k = one_items [] ds es ts once h (subst (AreWritten kind [] es) (sym same) k)

  pub one_list : (d e : Data) (o : Option (Tree S)) → IsWritten kind d o → IsWritten kind e o → d ≡ e
  one_list d e o h k =
      let same : k.root ≡ h.root = cc (h.tree, k.tree) in
      h.is
      ∙ ap (λ (ds : List Data). array (items_of ds))
      (same_items h.items k.items h.of.trees k.of.trees
      (adds_same [] (subtrees h.root) h.of.trees k.of.trees h.of.order (subst (λ t. Adds [] (subtrees t) k.of.trees) same k.of.order))
      (adds_once [] (subtrees h.root) h.of.trees nothing_twice h.of.order) h.of.nodes k.of.nodes)
      ∙ sym k.is

  pub written_tree : (d : Data) (t u : Option (Tree S)) → IsWritten kind d t → IsWritten kind d u → t ≡ u
  written_tree d t u h k = one_tree kind laws d t u (written_list d t h) (written_list d u k)
