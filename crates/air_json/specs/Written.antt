-- The list of nodes that is written for a tree.
use Rattle.std.specs.Prelude.{◌≡◌, ℕ, ◌+◌, ◌<◌, ◌^◌, ◌⊎◌, max, List, [], ◌∷◌, ◌++◌, Option, Some, codes, ⊤}
use Rattle.std.specs.List.{slice_get}
use Rattle.serde_json.specs.Data.{Data, array, object, member, no_members}
use Rattle.serde_json.specs.View.{items_of}
use Rattle.air_symbolic.specs.Trees.{Tree, leaf_tree, add_tree, sub_tree, neg_tree, mul_tree}
use Rattle.air_json.specs.Spelling.{number_data, case_data, IsCase}
use Rattle.air_json.specs.Unshared.{degree}
use Rattle.air_json.specs.Nodes.{Kind}

-- all subtrees in post-order: those of the left operand, then those of the right one, then the tree
abbrev pub subtrees : {S : Type 0} → Tree S → List (Tree S)
subtrees (leaf_tree a) = leaf_tree a ∷ []
subtrees (add_tree t u) = subtrees t ++ subtrees u ++ add_tree t u ∷ []
subtrees (sub_tree t u) = subtrees t ++ subtrees u ++ sub_tree t u ∷ []
subtrees (neg_tree t) = subtrees t ++ neg_tree t ∷ []
subtrees (mul_tree t u) = subtrees t ++ subtrees u ++ mul_tree t u ∷ []

-- x is in the list
abbrev pub IsAmong : {X : Type 0} → List X → X → Type 0
IsAmong xs x = (i : ℕ) × (slice_get xs i ≡ Some x)

-- `all` is `done`, followed by those elements of xs that aren't in it yet, each once, at its first place
unfoldable pub Adds : {X : Type 0} → List X → List X → List X → Type 0
Adds done [] all = all ≡ done
Adds done (x ∷ xs) all = (IsAmong done x × Adds done xs all) ⊎ ((IsAmong done x → ⊥) × Adds (done ++ x ∷ []) xs all)

-- ---- one node

abbrev pub two_data : ℕ → ℕ → ℕ → Data
two_data d x y = object (member (codes "degree_multiple") (number_data d) (member (codes "x") (number_data x) (member (codes "y") (number_data y) no_members)))

abbrev pub one_data : ℕ → ℕ → Data
one_data d x = object (member (codes "degree_multiple") (number_data d) (member (codes "x") (number_data x) no_members))

-- the case of this name with the degree d and the places of t and u
abbrev pub WritesTwo : {S : Type 0} → List ℕ → List (Tree S) → Tree S → Tree S → ℕ → Data → Type 0
WritesTwo name done t u d v = (x : IsAmong done t) × (y : IsAmong done u) × (v ≡ case_data name (two_data d x.0 y.0))

abbrev pub WritesOne : {S : Type 0} → List ℕ → List (Tree S) → Tree S → ℕ → Data → Type 0
WritesOne name done t d v = (x : IsAmong done t) × (v ≡ case_data name (one_data d x.0))

-- After nodes with the trees `done`, the value is the one written for the tree: with its degree, which fits `usize`,
-- and the places of its operands.
abbrev pub IsWrittenNode : {S F : Type 0} → Kind S F → List (Tree S) → Data → Tree S → Type 0
IsWrittenNode kind done d (leaf_tree a) = IsCase (codes "Leaf") (λ c. kind.writes c a) d
IsWrittenNode kind done d (add_tree t u) = WritesTwo (codes "Add") done t u (max (degree kind.term t) (degree kind.term u)) d
IsWrittenNode kind done d (sub_tree t u) = WritesTwo (codes "Sub") done t u (max (degree kind.term t) (degree kind.term u)) d
IsWrittenNode kind done d (neg_tree t) = WritesOne (codes "Neg") done t (degree kind.term t) d
IsWrittenNode kind done d (mul_tree t u) = WritesTwo (codes "Mul") done t u (degree kind.term t + degree kind.term u) d × (degree kind.term t + degree kind.term u < 2 ^ 64)

-- ---- lists

-- the values are those written for these trees, each after those before it
unfoldable pub AreWritten : {S F : Type 0} → Kind S F → List (Tree S) → List Data → List (Tree S) → Type 0
AreWritten kind done [] [] = ⊤
AreWritten kind done [] (t ∷ ts) = ⊥
AreWritten kind done (d ∷ ds) [] = ⊥
AreWritten kind done (d ∷ ds) (t ∷ ts) = IsWrittenNode kind done d t × AreWritten kind (done ++ t ∷ []) ds ts

-- the values are the nodes of the subtrees of t in post-order, each subtree once, at its first place
pub record AreNodesOf {S F : Type 0} (kind : Kind S F) (ds : List Data) (t : Tree S) : Type 0 where
  pub trees : List (Tree S)
  pub order : Adds [] (subtrees t) trees
  pub nodes : AreWritten kind [] ds trees

-- o is a tree, and the value is the list written for it
pub record IsWritten {S F : Type 0} (kind : Kind S F) (d : Data) (o : Option (Tree S)) : Type 0 where
  pub items : List Data
  pub root : Tree S
  pub tree : o ≡ Some root
  pub is : d ≡ array (items_of items)
  pub of : AreNodesOf kind items root
