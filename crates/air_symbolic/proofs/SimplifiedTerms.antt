-- The simplified sum or product of a list simplifies the sum or product of its terms.
use Rattle.std.proofs.Common.{◌≡◌, ℕ, suc, ◌<◌, Bool, Decides, List, [], ◌∷◌, All, length, map, refl, sym, ap, ap₂, subst, ◌∙◌, arith}
use Rattle.std.specs.Prelude.{Option, Some, None}
use Rattle.air_field.specs.Ring.{CommRing}
use Rattle.air_field.specs.Term.{Term, const_term, add_term, mul_term}
use Rattle.air_field.specs.Same.{Simplifies}
use Rattle.air_field.specs.laws.Degree.{Simplifies-refl, Simplifies-trans, Simplifies-add, Simplifies-mul}
use Rattle.air_field.specs.Joins.{join_from, join_terms}
use Rattle.air_symbolic.specs.Leaves.{Leaves, LeafLaws}
use Rattle.air_symbolic.specs.Trees.{Tree, add_tree, mul_tree, both, term_of, IsValidTree}
use Rattle.air_symbolic.specs.Pools.{Pool, IsPool, Grown, tree_at, term_at}
use Rattle.air_symbolic.specs.laws.Pools.{here-kept, tree-kept}
use Rattle.air_symbolic.specs.laws.Numbers.{tree_of-valid, term_of-kept, both-valid, negative-valid}
use Rattle.air_symbolic.specs.Simplification.{IsSimplified}
use Rattle.air_symbolic.specs.SimplifiedLists.{JoinedFrom, IsJoined, SumStep, ProductStep, IsSumOfAll, IsProductOfAll}
use Rattle.air_symbolic.proofs.Simplifying.{operation-simplifies, sum, product}
use Rattle.air_symbolic.specs.declared.pools.simplify.Simplified.{Simplified}
use Rattle.air_symbolic.specs.declared.pools.simplify.Simplified.TheVariants.{Constant, Left, Right, Negated}

abbrev TreesValid : {A : Type 0} → (A → Type 0) → List (Option (Tree A)) → Type 0
TreesValid valid [] = Unit {0}
TreesValid valid (t ∷ ts) = IsValidTree valid t × TreesValid valid ts

-- a simplified tree is valid
IsSimplified-valid : {A F : Type 0} (l : Leaves A F) (t u node v : Option (Tree A)) (f : Option (Simplified F)) → IsValidTree l.valid t → IsValidTree l.valid u → IsValidTree l.valid node → IsSimplified l t u node f v → IsValidTree l.valid v
IsSimplified-valid l t u plain v (Some (Constant c)) ht hu hn h = subst (IsValidTree l.valid) (sym h.1) h.2.valid
IsSimplified-valid l t u plain v (Some Left) ht hu hn h = subst (IsValidTree l.valid) (sym h) ht
IsSimplified-valid l t u plain v (Some Right) ht hu hn h = subst (IsValidTree l.valid) (sym h) hu
IsSimplified-valid l t u plain v (Some Negated) ht hu hn h = subst (IsValidTree l.valid) (sym h) (negative-valid l.valid u hu)
IsSimplified-valid l t u plain v None ht hu hn h = subst (IsValidTree l.valid) (sym h) hn

module _ {A F : Type 0} (r : CommRing F) (l : Leaves A F) (op : Term F → Term F → Term F) (step : Option (Tree A) → Option (Tree A) → Option (Tree A) → Type 0)
    (congruent : (t u v w : Term F) → Simplifies r t v → Simplifies r u w → Simplifies r (op t u) (op v w))
    (step_stands : (t u v : Option (Tree A)) → IsValidTree l.valid t → IsValidTree l.valid u → step t u v → Simplifies r (term_of l.term v) (op (term_of l.term t) (term_of l.term u)))
    (step_valid : (t u v : Option (Tree A)) → IsValidTree l.valid t → IsValidTree l.valid u → step t u v → IsValidTree l.valid v) where
  join_from-simplifies : (a b : Term F) (ts : List (Term F)) → Simplifies r a b → Simplifies r (join_from op a ts) (join_from op b ts)
  join_from-simplifies a b [] h = h
  join_from-simplifies a b (t ∷ ts) h = join_from-simplifies (op a t) (op b t) ts (congruent a t b t h (Simplifies-refl r t))

  from-simplifies : (t : Option (Tree A)) (ts : List (Option (Tree A))) (v : Option (Tree A)) → IsValidTree l.valid t → TreesValid l.valid ts → JoinedFrom step t ts v → Simplifies r (term_of l.term v) (join_from op (term_of l.term t) (map (term_of l.term) ts))
  from-simplifies t [] v ht hs h = subst (λ x. Simplifies r (term_of l.term x) (term_of l.term t)) (sym h) (Simplifies-refl r (term_of l.term t))
  from-simplifies t (u ∷ us) v ht hs h =
      let w : Option (Tree A) = h.0 in
      Simplifies-trans r _ _ _
      (from-simplifies w us v (step_valid t u w ht hs.0 h.1) hs.1 h.2)
      (join_from-simplifies (term_of l.term w) (op (term_of l.term t) (term_of l.term u)) (map (term_of l.term) us) (step_stands t u w ht hs.0 h.1))

  joined-simplifies : (none : F) (ts : List (Option (Tree A))) (v : Option (Tree A)) → TreesValid l.valid ts → IsJoined l none step ts v → Simplifies r (term_of l.term v) (join_terms op none (map (term_of l.term) ts))
  joined-simplifies none [] v hs h =
      subst (λ x. Simplifies r x (const_term none)) (sym (ap (term_of l.term) h.1 ∙ h.2.term)) (Simplifies-refl r (const_term none))
  joined-simplifies none (t ∷ ts) v hs h = from-simplifies t ts v hs.0 hs.1 h

module _ {U A F : Type 0} (r : CommRing F) (eq : F → F → Bool) (decides : (x y : F) → Decides (eq x y) (x ≡ y)) (reads : U → Leaves A F) (grows : U → U → Type 0) (empty : U) (laws : LeafLaws r reads grows empty) (p q : Pool U A) (pool : IsPool reads p) (g : Grown grows reads p q) where
  tree-valid : (i : ℕ) → i < length p.nodes → IsValidTree (reads q.base).valid (tree_at p i)
  tree-valid i b =
      subst (IsValidTree (reads q.base).valid) (tree-kept r reads grows empty laws p q i g b)
      (tree_of-valid (reads q.base) q.nodes (g.pool pool).nodes i (here-kept r reads grows empty laws p q i g b))

  trees-valid : (xs : List ℕ) → All (λ i. i < length p.nodes) xs → TreesValid (reads q.base).valid (map (tree_at p) xs)
  trees-valid [] h = tt
  trees-valid (x ∷ xs) h = (tree-valid x (h 0 x (omega arith)), trees-valid xs (λ k d lt. h (suc k) d (omega arith)))

  terms-kept : (xs : List ℕ) → All (λ i. i < length p.nodes) xs → map (term_of (reads q.base).term) (map (tree_at p) xs) ≡ map (term_at reads p) xs
  terms-kept [] h = refl
  terms-kept (x ∷ xs) h =
      ap₂ (λ (t : Term F) ts. t ∷ ts)
      (term_of-kept (reads p.base) (reads q.base) (laws.keeps p.base q.base g.base) (tree_at p x) (tree_of-valid (reads p.base) p.nodes pool.nodes x (h 0 x (omega arith))))
      (terms-kept xs (λ k d lt. h (suc k) d (omega arith)))

  pub IsSumOfAll-simplifies : (xs : List ℕ) → All (λ i. i < length p.nodes) xs → (z : ℕ) → IsSumOfAll reads r eq p q xs z → Simplifies r (term_at reads q z) (join_terms add_term r.zero (map (term_at reads p) xs))
  IsSumOfAll-simplifies xs h z m =
      subst (λ ts. Simplifies r (term_at reads q z) (join_terms add_term r.zero ts)) (terms-kept xs h)
      (joined-simplifies r (reads q.base) add_term (SumStep r eq (reads q.base)) (Simplifies-add r)
      (λ t u v ht hu s. operation-simplifies r (reads q.base) (reads q.base) (laws.constant_is q.base) (laws.keeps q.base q.base (laws.same q.base)) (sum decides (reads q.base)) t u ht hu v s)
      (λ t u v ht hu s. IsSimplified-valid (reads q.base) t u (both add_tree t u) v _ ht hu (both-valid (reads q.base).valid add_tree (λ _ _ h k. (h, k)) t u ht hu) s)
      r.zero (map (tree_at p) xs) (tree_at q z) (trees-valid xs h) m.tree)

  pub IsProductOfAll-simplifies : (xs : List ℕ) → All (λ i. i < length p.nodes) xs → (z : ℕ) → IsProductOfAll reads r eq p q xs z → Simplifies r (term_at reads q z) (join_terms mul_term r.one (map (term_at reads p) xs))
  IsProductOfAll-simplifies xs h z m =
      subst (λ ts. Simplifies r (term_at reads q z) (join_terms mul_term r.one ts)) (terms-kept xs h)
      (joined-simplifies r (reads q.base) mul_term (ProductStep r eq (reads q.base)) (Simplifies-mul r)
      (λ t u v ht hu s. operation-simplifies r (reads q.base) (reads q.base) (laws.constant_is q.base) (laws.keeps q.base q.base (laws.same q.base)) (product decides (reads q.base)) t u ht hu v s.1)
      (λ t u v ht hu s. IsSimplified-valid (reads q.base) t u (both mul_tree t u) v _ ht hu (both-valid (reads q.base).valid mul_tree (λ _ _ h k. (h, k)) t u ht hu) s.1)
      r.one (map (tree_at p) xs) (tree_at q z) (trees-valid xs h) m.tree)
