-- An expression's tree without numbers of a pool, and that it stays.
use Rattle.std.proofs.Common.{◌≡◌, ℕ, ◌<◌, length, Option, Some, None, option_map, Result, Ok, refl, sym, ap, ◌∙◌}
use Rattle.air_field.specs.Term.{Term}
use Rattle.air_field.specs.Degree.{degree_by, cached_weight}
use Rattle.air_symbolic.specs.Leaves.{Leaves}
use Rattle.air_symbolic.specs.Trees.{Tree, leaf_tree, add_tree, sub_tree, neg_tree, mul_tree, both, tree_term, term_of, AllValid, IsValidTree}
use Rattle.air_symbolic.specs.Nodes.{tree_of}
use Rattle.air_symbolic.specs.laws.Numbers.{tree_of-kept, tree_of-valid, tree_there}
use Rattle.air_symbolic.specs.Pools.{Pool, IsPool, Grown, tree_at, term_at}
use Rattle.air_json.specs.declared.errors.FlatError.{FlatError}
use Rattle.air_json.specs.declared.operations.Operation.{Operation}
use Rattle.air_json.specs.declared.operations.Operation.TheVariants.{Neg}
use Rattle.air_json.specs.Nodes.{joined_tree}
use Rattle.air_json.specs.Results.{◌>>=◌, as_some}
use Rattle.air_json.specs.Unshared.{map_leaves, seen_at, degree_of, WireLaws}

-- ---- the tree with its leaves replaced

module _ {A S : Type 0} (f : A → S) where
  pub map_leaves-both : (node : Tree A → Tree A → Tree A) (made : Tree S → Tree S → Tree S)
      → ((t u : Tree A) → map_leaves f (node t u) ≡ made (map_leaves f t) (map_leaves f u))
      → (o p : Option (Tree A)) → option_map (map_leaves f) (both node o p) ≡ both made (option_map (map_leaves f) o) (option_map (map_leaves f) p)
  map_leaves-both node made is (Some t) (Some u) = ap (λ v. Some v) (is t u)
  map_leaves-both node made is (Some t) None = refl
  map_leaves-both node made is None p = refl

  pub map_leaves-negative : (o : Option (Tree A)) → option_map (map_leaves f) (option_map neg_tree o) ≡ option_map neg_tree (option_map (map_leaves f) o)
  map_leaves-negative (Some t) = refl
  map_leaves-negative None = refl

-- the only operand of a negative is used for both
pub negative-both : {S : Type 0} (op : Operation) (o r : Option (Tree S)) (u : Tree S) → op ≡ Neg → r ≡ Some u → both (joined_tree op) o r ≡ option_map neg_tree o
negative-both op (Some t) r u is there = rw (is, there) refl
negative-both op None r u is there = refl

-- each number of a pool has a tree
pub seen_there : {U A S F : Type 0} (reads : U → Leaves A F) (seen : U → A → S) (p : Pool U A) → IsPool reads p → (i : ℕ) → i < length p.nodes → (t : Tree S) × (seen_at seen p i ≡ Some t)
seen_there reads seen p w i h =
    let t = tree_there (reads p.base).valid (tree_at p i) (tree_of-valid (reads p.base) p.nodes w.nodes i h) in
    (map_leaves (seen p.base) t.0, ap (option_map (map_leaves (seen p.base))) t.1)

-- ---- terms and growth

module _ {U A S F : Type 0} (reads : U → Leaves A F) (grows : U → U → Type 0) (seen : U → A → S) (term : S → Term F) (laws : WireLaws reads grows seen term) where
  over_term : (u : U) (t : Tree A) → tree_term term (map_leaves (seen u) t) ≡ tree_term (reads u).term t
  over_term u (leaf_tree a) = laws.term_is u a
  over_term u (add_tree t v) = cc (over_term u t, over_term u v)
  over_term u (sub_tree t v) = cc (over_term u t, over_term u v)
  over_term u (neg_tree t) = cc (over_term u t)
  over_term u (mul_tree t v) = cc (over_term u t, over_term u v)

  seen_term : (u : U) (o : Option (Tree A)) → term_of term (option_map (map_leaves (seen u)) o) ≡ term_of (reads u).term o
  seen_term u (Some t) = over_term u t
  seen_term u None = refl

  degree_seen : (p : Pool U A) (i : ℕ) → degree_of term (seen_at seen p i) ≡ degree_by cached_weight (term_at reads p i)
  degree_seen p i = ap (degree_by cached_weight) (seen_term p.base (tree_at p i))

  pub degree_is_seen : (p : Pool U A) (i d : ℕ) → d ≡ degree_by cached_weight (term_at reads p i) → d ≡ degree_of term (seen_at seen p i)
  degree_is_seen p i d e = e ∙ sym (degree_seen p i)

  over_kept : (u v : U) → grows u v → (t : Tree A) → AllValid (reads u).valid t → map_leaves (seen v) t ≡ map_leaves (seen u) t
  over_kept u v g (leaf_tree a) h = ap (λ s. leaf_tree s) (laws.kept u v g a h)
  over_kept u v g (add_tree t w) h = cc (over_kept u v g t h.0, over_kept u v g w h.1)
  over_kept u v g (sub_tree t w) h = cc (over_kept u v g t h.0, over_kept u v g w h.1)
  over_kept u v g (neg_tree t) h = cc (over_kept u v g t h)
  over_kept u v g (mul_tree t w) h = cc (over_kept u v g t h.0, over_kept u v g w h.1)

  tree_kept : (u v : U) → grows u v → (o : Option (Tree A)) → IsValidTree (reads u).valid o → option_map (map_leaves (seen v)) o ≡ option_map (map_leaves (seen u)) o
  tree_kept u v g (Some t) h = ap (λ w. Some w) (over_kept u v g t h)
  tree_kept u v g None h = absurd h

  pub seen_kept : (p q : Pool U A) → IsPool reads p → Grown grows reads p q → (i : ℕ) → i < length p.nodes → seen_at seen q i ≡ seen_at seen p i
  seen_kept p q w g i h =
      ap (option_map (map_leaves (seen q.base))) (ap (λ l. tree_of l i) g.nodes.1 ∙ tree_of-kept p.nodes g.nodes.0 i h)
      ∙ tree_kept p.base q.base g.base (tree_at p i) (tree_of-valid (reads p.base) p.nodes w.nodes i h)

-- a leaf that is read and then inserted into the pool
pub leaf_seen : {U A S : Type 0} (seen : U → A → S) (u v : U) (a : A) (o : Option (Tree A)) (read : Result S FlatError) → v ≡ u → o ≡ Some (leaf_tree a) → read ≡ Ok (seen u a) → as_some (read >>= λ s. Ok (leaf_tree s)) ≡ Ok (option_map (map_leaves (seen v)) o)
leaf_seen seen u v a o read same tree is = rw (is, tree, same) refl
