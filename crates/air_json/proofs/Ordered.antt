-- The order of the nodes of a list.
use Rattle.std.proofs.Common.{◌≡◌, ℕ, suc, zero, List, [], ◌∷◌, ◌++◌, append_assoc, Some, refl, sym, subst, ◌∙◌, inl, ⊎_elim}
use Rattle.std.specs.List.{slice_get}
use Rattle.std.proofs.lemmas.List.{append-nil}
use Rattle.air_symbolic.specs.Trees.{Tree, leaf_tree, add_tree, sub_tree, neg_tree, mul_tree}
use Rattle.air_json.specs.Written.{subtrees, IsAmong, Adds}
use Rattle.air_json.specs.laws.Written.{among_more, among_push, among_either, pushed_either, parts, parts_root}

-- ---- operands are earlier

unfoldable pub HasOperands : {S : Type 0} → List (Tree S) → Tree S → Type 0
HasOperands done (leaf_tree a) = Unit {0}
HasOperands done (add_tree t u) = IsAmong done t × IsAmong done u
HasOperands done (sub_tree t u) = IsAmong done t × IsAmong done u
HasOperands done (neg_tree t) = IsAmong done t
HasOperands done (mul_tree t u) = IsAmong done t × IsAmong done u

-- each of the trees is after its operands, including those of `done`
pub Ordered : {S : Type 0} → List (Tree S) → List (Tree S) → Type 0
Ordered done [] = Unit {0}
Ordered done (t ∷ ts) = HasOperands done t × Ordered (done ++ t ∷ []) ts

-- all subtrees of a tree of the list are in the list
unfoldable pub Closed : {S : Type 0} → List (Tree S) → Type 0
Closed {S} done = (t : Tree S) → IsAmong done t → (x : Tree S) → IsAmong (subtrees t) x → IsAmong done x

module _ {S : Type 0} where
  abbrev Sub : List (Tree S) → List (Tree S) → Type 0
  Sub done more = (t : Tree S) → IsAmong done t → IsAmong more t

  sub_push : (done more : List (Tree S)) (x : Tree S) → Sub done more → Sub (done ++ x ∷ []) (more ++ x ∷ [])
  sub_push done more x sub t h =
      ⊎_elim
      (λ (l : IsAmong done t). among_more more (x ∷ []) t (sub t l))
      (λ (e : x ≡ t). subst (λ (y : Tree S). IsAmong (more ++ x ∷ []) y) e (among_push more x))
      (pushed_either done x t h)

  operands_sub : (done more : List (Tree S)) (t : Tree S) → Sub done more → HasOperands done t → HasOperands more t
  unfolding HasOperands
  operands_sub done more (leaf_tree a) sub h = tt
  operands_sub done more (add_tree t u) sub h = (sub t h.0, sub u h.1)
  operands_sub done more (sub_tree t u) sub h = (sub t h.0, sub u h.1)
  operands_sub done more (neg_tree t) sub h = sub t h
  operands_sub done more (mul_tree t u) sub h = (sub t h.0, sub u h.1)

  ordered_sub : (done more ts : List (Tree S)) → Sub done more → Ordered done ts → Ordered more ts
  unfolding Ordered
  ordered_sub done more [] sub h = tt
  ordered_sub done more (t ∷ ts) sub h = (operands_sub done more t sub h.0, ordered_sub (done ++ t ∷ []) (more ++ t ∷ []) ts (sub_push done more t sub) h.1)

  ordered_cons : (done ts : List (Tree S)) (t : Tree S) → HasOperands done t → Ordered (done ++ t ∷ []) ts → Ordered done (t ∷ ts)
  unfolding Ordered
  ordered_cons done ts t h k = (h, k)

  pub ordered_head : (done ts : List (Tree S)) (t : Tree S) → Ordered done (t ∷ ts) → HasOperands done t × Ordered (done ++ t ∷ []) ts
  unfolding Ordered
  ordered_head done ts t h = h

  -- the root, when its operands are in the list
  ordered_root : (done rest : List (Tree S)) (t : Tree S) → HasOperands done t → ((mid : List (Tree S)) → Sub done mid → IsAmong mid t → Ordered mid rest) → Ordered done (t ∷ rest)
  ordered_root done rest t h k = ordered_cons done rest t h (k (done ++ t ∷ []) (λ x p. among_more done (t ∷ []) x p) (among_push done t))

  ordered_two : (t u root : Tree S) (done rest : List (Tree S)) → ((done rest : List (Tree S)) → ((mid : List (Tree S)) → Sub done mid → IsAmong mid t → Ordered mid rest) → Ordered done (subtrees t ++ rest))
      → ((done rest : List (Tree S)) → ((mid : List (Tree S)) → Sub done mid → IsAmong mid u → Ordered mid rest) → Ordered done (subtrees u ++ rest))
      → ((mid : List (Tree S)) → IsAmong mid t → IsAmong mid u → HasOperands mid root) → ((mid : List (Tree S)) → Sub done mid → IsAmong mid root → Ordered mid rest) → Ordered done (subtrees t ++ subtrees u ++ root ∷ [] ++ rest)
  ordered_two t u root done rest left right has k =
      subst (Ordered done) (sym (append_assoc (subtrees t ++ subtrees u) (root ∷ []) rest ∙ append_assoc (subtrees t) (subtrees u) (root ∷ rest)))
      (left done (subtrees u ++ root ∷ rest) (λ mid sub at. right mid (root ∷ rest) (λ more up also. ordered_root more rest root (has more (up t at) also) (λ most over. k most (λ x p. over x (up x (sub x p)))))))

  ordered_tree : (t : Tree S) (done rest : List (Tree S)) → ((mid : List (Tree S)) → Sub done mid → IsAmong mid t → Ordered mid rest) → Ordered done (subtrees t ++ rest)
  unfolding HasOperands
  ordered_tree (leaf_tree a) done rest k = ordered_root done rest (leaf_tree a) tt k
  ordered_tree (add_tree t u) done rest k = ordered_two t u (add_tree t u) done rest (ordered_tree t) (ordered_tree u) (λ mid p q. (p, q)) k
  ordered_tree (sub_tree t u) done rest k = ordered_two t u (sub_tree t u) done rest (ordered_tree t) (ordered_tree u) (λ mid p q. (p, q)) k
  ordered_tree (neg_tree t) done rest k =
      subst (Ordered done) (sym (append_assoc (subtrees t) (neg_tree t ∷ []) rest))
      (ordered_tree t done (neg_tree t ∷ rest) (λ mid sub at. ordered_root mid rest (neg_tree t) at (λ more up. k more (λ x p. up x (sub x p)))))
  ordered_tree (mul_tree t u) done rest k = ordered_two t u (mul_tree t u) done rest (ordered_tree t) (ordered_tree u) (λ mid p q. (p, q)) k

  ordered_end : (mid : List (Tree S)) → Ordered mid []
  unfolding Ordered
  ordered_end mid = tt

  pub ordered_all : (t : Tree S) → Ordered [] (subtrees t)
  ordered_all t = subst (Ordered []) (append-nil (subtrees t)) (ordered_tree t [] [] (λ mid sub at. ordered_end mid))

  -- ---- elements that are in the list already are skipped

  pub adds_skip : (done xs rest all : List (Tree S)) → ((x : Tree S) → IsAmong xs x → IsAmong done x) → Adds done rest all → Adds done (xs ++ rest) all
  unfolding Adds
  adds_skip done [] rest all h k = k
  adds_skip done (x ∷ xs) rest all h k = inl (h x (zero, refl), adds_skip done xs rest all (λ y p. h y (suc p.0, p.1)) k)

  pub ordered_skip : (done xs rest : List (Tree S)) → ((x : Tree S) → IsAmong xs x → IsAmong done x) → Ordered done (xs ++ rest) → Ordered done rest
  ordered_skip done [] rest h k = k
  ordered_skip done (x ∷ xs) rest h k =
      ordered_skip done xs rest (λ y p. h y (suc p.0, p.1))
      (ordered_sub (done ++ x ∷ []) done (xs ++ rest) (λ t p. ⊎_elim (λ (l : IsAmong done t). l) (λ (e : x ≡ t). subst (λ (y : Tree S). IsAmong done y) e (h x (zero, refl))) (pushed_either done x t p)) (ordered_head done (xs ++ rest) x k).1)

  -- ---- all subtrees of a tree of the list are in the list

  nowhere : (x : Tree S) (i : ℕ) → slice_get [] i ≡ Some x → ⊥
  nowhere x i e = cc

  parts_among : (done : List (Tree S)) (t : Tree S) → Closed done → HasOperands done t → (x : Tree S) → IsAmong (parts t) x → IsAmong done x
  unfolding HasOperands Closed
  parts_among done (leaf_tree a) closed h x p = absurd (nowhere x p.0 p.1)
  parts_among done (add_tree t u) closed h x p = ⊎_elim (λ (l : IsAmong (subtrees t) x). closed t h.0 x l) (λ (r : IsAmong (subtrees u) x). closed u h.1 x r) (among_either (subtrees t) (subtrees u) x p)
  parts_among done (sub_tree t u) closed h x p = ⊎_elim (λ (l : IsAmong (subtrees t) x). closed t h.0 x l) (λ (r : IsAmong (subtrees u) x). closed u h.1 x r) (among_either (subtrees t) (subtrees u) x p)
  parts_among done (neg_tree t) closed h x p = closed t h x p
  parts_among done (mul_tree t u) closed h x p = ⊎_elim (λ (l : IsAmong (subtrees t) x). closed t h.0 x l) (λ (r : IsAmong (subtrees u) x). closed u h.1 x r) (among_either (subtrees t) (subtrees u) x p)

  pub closed_push : (done : List (Tree S)) (t : Tree S) → Closed done → HasOperands done t → Closed (done ++ t ∷ [])
  unfolding Closed
  closed_push done t closed h y at x p =
      ⊎_elim
      (λ (l : IsAmong done y). among_more done (t ∷ []) x (closed y l x p))
      (λ (e : t ≡ y).
      ⊎_elim
      (λ (l : IsAmong (parts t) x). among_more done (t ∷ []) x (parts_among done t closed h x l))
      (λ (s : t ≡ x). subst (λ (z : Tree S). IsAmong (done ++ t ∷ []) z) s (among_push done t))
      (pushed_either (parts t) t x (subst (λ (l : List (Tree S)). IsAmong l x) (parts_root t) (subst (λ (z : Tree S). IsAmong (subtrees z) x) (sym e) p))))
      (pushed_either done t y at)
