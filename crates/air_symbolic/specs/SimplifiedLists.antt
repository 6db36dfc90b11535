-- The tree of the simplified sum or product of a list: elements are joined from the left, and each step is simplified.
use Rattle.std.specs.Prelude.{◌≡◌, ℕ, ◌+◌, ◌<◌, ◌≤◌, ◌^◌, ◌⊎◌, Bool, List, [], ◌∷◌, map, Option, None}
use Rattle.air_field.specs.Ring.{CommRing}
use Rattle.air_field.specs.Degree.{degree_by, cached_weight}
use Rattle.air_symbolic.specs.Leaves.{Leaves}
use Rattle.air_symbolic.specs.Trees.{Tree, add_tree, mul_tree, both, term_of, tree_constant}
use Rattle.air_symbolic.specs.Pools.{tree_at, IsConst, Pool, size}
use Rattle.air_symbolic.specs.Simplification.{simplified_sum, simplified_product, IsSimplified}

-- v is t joined with the trees one by one
abbrev pub JoinedFrom : {A : Type 0} → (Option (Tree A) → Option (Tree A) → Option (Tree A) → Type 0) → Option (Tree A) → List (Option (Tree A)) → Option (Tree A) → Type 0
JoinedFrom step t [] v = v ≡ t
JoinedFrom {A = A} step t (u ∷ us) v = (w : Option (Tree A)) × step t u w × JoinedFrom step w us v

-- v is the join of the trees, or the constant for the empty list
abbrev pub IsJoined : {A F : Type 0} → Leaves A F → F → (Option (Tree A) → Option (Tree A) → Option (Tree A) → Type 0) → List (Option (Tree A)) → Option (Tree A) → Type 0
IsJoined l none step [] v = IsConst l none v
IsJoined l none step (t ∷ ts) v = JoinedFrom step t ts v

module _ {A F : Type 0} (r : CommRing F) (eq : F → F → Bool) (l : Leaves A F) where
  -- v is the simplified sum of t and u
  abbrev pub SumStep : Option (Tree A) → Option (Tree A) → Option (Tree A) → Type 0
  SumStep t u v = IsSimplified l t u (both add_tree t u) (simplified_sum r eq (tree_constant l.constant t) (tree_constant l.constant u)) v

  -- the product of t and u needs a node, and the sum of the degrees exceeds `usize`
  abbrev pub Overflows : Option (Tree A) → Option (Tree A) → Type 0
  Overflows t u =
      (simplified_product r eq (tree_constant l.constant t) (tree_constant l.constant u) ≡ None)
      × (2 ^ 64 ≤ degree_by cached_weight (term_of l.term t) + degree_by cached_weight (term_of l.term u))

  -- v is the simplified product of t and u, which doesn't overflow
  abbrev pub ProductStep : Option (Tree A) → Option (Tree A) → Option (Tree A) → Type 0
  ProductStep t u v =
      (Overflows t u → ⊥) × IsSimplified l t u (both mul_tree t u) (simplified_product r eq (tree_constant l.constant t) (tree_constant l.constant u)) v

  -- multiplying t by the trees one by one overflows at some step
  abbrev pub OverflowsFrom : Option (Tree A) → List (Option (Tree A)) → Type 0
  OverflowsFrom t [] = ⊥
  OverflowsFrom t (u ∷ us) = Overflows t u ⊎ ((w : Option (Tree A)) × ProductStep t u w × OverflowsFrom w us)

  abbrev pub ProductOverflows : List (Option (Tree A)) → Type 0
  ProductOverflows [] = ⊥
  ProductOverflows (t ∷ ts) = OverflowsFrom t ts

-- Number z of the pool q is the simplified join of the elements xs, which are numbers of the pool p.
module _ {U A F : Type 0} (reads : U → Leaves A F) (r : CommRing F) (eq : F → F → Bool) (p q : Pool U A) where
  pub record IsSumOfAll (xs : List ℕ) (z : ℕ) : Type 0 where
    pub here : z < size q
    pub tree : IsJoined (reads q.base) r.zero (SumStep r eq (reads q.base)) (map (tree_at p) xs) (tree_at q z)

  pub record IsProductOfAll (xs : List ℕ) (z : ℕ) : Type 0 where
    pub here : z < size q
    pub tree : IsJoined (reads q.base) r.one (ProductStep r eq (reads q.base)) (map (tree_at p) xs) (tree_at q z)
