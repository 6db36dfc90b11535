-- Trees whose leaves have no numbers of a pool.
use Rattle.std.specs.Prelude.{◌≡◌, ℕ, Option, option_map}
use Rattle.air_field.specs.Term.{Term}
use Rattle.air_field.specs.Degree.{degree_by, cached_weight}
use Rattle.air_symbolic.specs.Leaves.{Leaves}
use Rattle.air_symbolic.specs.Trees.{Tree, leaf_tree, add_tree, sub_tree, neg_tree, mul_tree, tree_term, term_of}
use Rattle.air_symbolic.specs.Pools.{tree_at, Pool}

-- the tree with its leaves replaced
abbrev pub map_leaves : {A S : Type 0} → (A → S) → Tree A → Tree S
map_leaves f (leaf_tree a) = leaf_tree (f a)
map_leaves f (add_tree t u) = add_tree (map_leaves f t) (map_leaves f u)
map_leaves f (sub_tree t u) = sub_tree (map_leaves f t) (map_leaves f u)
map_leaves f (neg_tree t) = neg_tree (map_leaves f t)
map_leaves f (mul_tree t u) = mul_tree (map_leaves f t) (map_leaves f u)

-- the tree of number i with its leaves replaced, if the pool has this number
abbrev pub seen_at : {U A S : Type 0} → (U → A → S) → Pool U A → ℕ → Option (Tree S)
seen_at seen p i = option_map (map_leaves (seen p.base)) (tree_at p i)

-- the degree by the cached weights, as lists state it
abbrev pub degree : {S F : Type 0} → (S → Term F) → Tree S → ℕ
degree term t = degree_by cached_weight (tree_term term t)

-- the degree of the tree of a number
abbrev pub degree_of : {S F : Type 0} → (S → Term F) → Option (Tree S) → ℕ
degree_of term o = degree_by cached_weight (term_of term o)

-- A leaf's view has the leaf's term. The view of a valid leaf stays as the base grows, and no other valid leaf has it.
pub record WireLaws {U A S F : Type 0} (reads : U → Leaves A F) (grows : U → U → Type 0) (seen : U → A → S) (term : S → Term F) : Type 0 where
  pub term_is : (u : U) (a : A) → term (seen u a) ≡ (reads u).term a
  pub kept : (u v : U) → grows u v → (a : A) → (reads u).valid a → seen v a ≡ seen u a
  pub one : (u : U) (a b : A) → (reads u).valid a → (reads u).valid b → seen u a ≡ seen u b → a ≡ b
