-- A pool's nodes in the order of their numbers, and the tree of each number.
use Rattle.std.specs.Prelude.{◌≡◌, ℕ, ◌<◌, ◌+◌, ◌^◌, max, List, [], ◌∷◌, ◌++◌, length, take, All, Option, None, Some, option_map, ⊤, slice_get, slice_index_or}
use Rattle.air_field.specs.Term.{Term, add_term, sub_term, neg_term, mul_term}
use Rattle.air_field.specs.Degree.{degree_by, cached_weight}
use Rattle.air_symbolic.specs.Leaves.{Leaves}
use Rattle.air_symbolic.specs.Trees.{Tree, leaf_tree, add_tree, sub_tree, neg_tree, mul_tree, both, term_of}
use Rattle.air_symbolic.specs.declared.pools.expr.SymbolicExpr.{SymbolicExpr}
use Rattle.air_symbolic.specs.declared.pools.expr.SymbolicExpr.TheVariants.{Leaf, Add, Sub, Neg, Mul}

-- the tree of a node, from the trees of its operands; None if one of these is missing
abbrev pub unfold_node : {A : Type 0} → (ℕ → Option (Tree A)) → SymbolicExpr A → Option (Tree A)
unfold_node at (Leaf a) = Some (leaf_tree a)
unfold_node at (Add x y d) = both add_tree (at x) (at y)
unfold_node at (Sub x y d) = both sub_tree (at x) (at y)
unfold_node at (Neg x d) = option_map neg_tree (at x)
unfold_node at (Mul x y d) = both mul_tree (at x) (at y)

-- the term of a node, from the terms of its leaf and of its operands
abbrev pub node_term : {A F : Type 0} → (A → Term F) → (ℕ → Term F) → SymbolicExpr A → Term F
node_term leaf at (Leaf a) = leaf a
node_term leaf at (Add x y d) = add_term (at x) (at y)
node_term leaf at (Sub x y d) = sub_term (at x) (at y)
node_term leaf at (Neg x d) = neg_term (at x)
node_term leaf at (Mul x y d) = mul_term (at x) (at y)

-- The results of a step for each node in order, computed from the results of earlier nodes; `none` is used for numbers
-- without one.
abbrev pub in_turn : {A T : Type 0} → T → ((ℕ → T) → SymbolicExpr A → T) → List T → List (SymbolicExpr A) → List T
in_turn none step before [] = before
in_turn none step before (n ∷ ns) = in_turn none step (before ++ step (λ i. slice_index_or before i none) n ∷ []) ns

-- the tree of number i, if there is a node with this number: the node with its operands unfolded
abbrev pub tree_of : {A : Type 0} → List (SymbolicExpr A) → ℕ → Option (Tree A)
tree_of ns i = slice_index_or (in_turn None unfold_node [] ns) i None

-- the degree of number i by the cached weights
abbrev pub cached_degree : {A F : Type 0} → Leaves A F → List (SymbolicExpr A) → ℕ → ℕ
cached_degree l ns i = degree_by cached_weight (term_of l.term (tree_of ns i))

-- the numbers of a node's operands, in order
abbrev pub operands : {A : Type 0} → SymbolicExpr A → List ℕ
operands (Leaf a) = []
operands (Add x y d) = x ∷ y ∷ []
operands (Sub x y d) = x ∷ y ∷ []
operands (Neg x d) = x ∷ []
operands (Mul x y d) = x ∷ y ∷ []

-- all operands of a node are below k
abbrev pub OperandsBelow : {A : Type 0} → ℕ → SymbolicExpr A → Type 0
OperandsBelow k n = All (λ x. x < k) (operands n)

-- if the node is a leaf, it is valid
abbrev pub IsValidNode : {A : Type 0} → (A → Type 0) → SymbolicExpr A → Type 0
IsValidNode valid (Leaf a) = valid a
IsValidNode valid _ = ⊤

-- the degree of a node, from the degrees of leaves and of numbers
abbrev pub node_degree : {A : Type 0} → (A → ℕ) → (ℕ → ℕ) → SymbolicExpr A → ℕ
node_degree leaf degree (Leaf a) = leaf a
node_degree leaf degree (Add x y d) = max (degree x) (degree y)
node_degree leaf degree (Sub x y d) = max (degree x) (degree y)
node_degree leaf degree (Neg x d) = degree x
node_degree leaf degree (Mul x y d) = degree x + degree y

-- the degree that a node states; a leaf's is its term's
abbrev pub stated_degree : {A F : Type 0} → Leaves A F → SymbolicExpr A → ℕ
stated_degree l (Leaf a) = degree_by cached_weight (l.term a)
stated_degree l (Add x y d) = d
stated_degree l (Sub x y d) = d
stated_degree l (Neg x d) = d
stated_degree l (Mul x y d) = d

-- The node may follow ns: a leaf is valid, operands are among ns, and the stated degree is right and fits `usize`.
pub record NodeFits {A F : Type 0} (l : Leaves A F) (ns : List (SymbolicExpr A)) (n : SymbolicExpr A) : Type 0 where
  pub valid : IsValidNode l.valid n
  pub below : OperandsBelow (length ns) n
  pub degree : stated_degree l n ≡ node_degree (λ a. degree_by cached_weight (l.term a)) (cached_degree l ns) n
  pub in_range : stated_degree l n < 2 ^ 64

-- each node fits the nodes before it, and no node occurs twice
pub record WellFormed {A F : Type 0} (l : Leaves A F) (ns : List (SymbolicExpr A)) : Type 0 where
  pub fits : (i : ℕ) (n : SymbolicExpr A) → slice_get ns i ≡ Some n → NodeFits l (take i ns) n
  pub once : (i j : ℕ) (n : SymbolicExpr A) → slice_get ns i ≡ Some n → slice_get ns j ≡ Some n → i ≡ j

-- n is the node with number i
pub record IsNode {A F : Type 0} (l : Leaves A F) (ns : List (SymbolicExpr A)) (i : ℕ) (n : SymbolicExpr A) : Type 0 where
  pub node : slice_get ns i ≡ Some n
  pub tree : tree_of ns i ≡ unfold_node (tree_of ns) n
  pub term : term_of l.term (tree_of ns i) ≡ node_term l.term (λ x. term_of l.term (tree_of ns x)) n
  pub fits : NodeFits l ns n
  pub degree : cached_degree l ns i ≡ stated_degree l n
  pub below : OperandsBelow i n
