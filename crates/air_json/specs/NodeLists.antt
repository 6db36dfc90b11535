-- Lists of nodes, and the tree of each list.
use Rattle.std.specs.Prelude.{◌≡◌, ℕ, ◌+◌, ◌<◌, ◌^◌, ◌⊎◌, max, List, [], ◌∷◌, ◌++◌, Option, Some, None, codes, ⊤}
use Rattle.std.specs.List.{slice_get}
use Rattle.serde_json.specs.Data.{Data, Items, no_items, item}
use Rattle.serde_json.specs.Find.{as_array}
use Rattle.air_symbolic.specs.Trees.{Tree, leaf_tree, add_tree, sub_tree, neg_tree, mul_tree}
use Rattle.air_json.specs.Spelling.{IsCase, HasWhole}
use Rattle.air_json.specs.Unshared.{degree}
use Rattle.air_json.specs.Nodes.{Kind}
use Rattle.air_json.specs.NodeFaults.{NodeFault}
use Rattle.air_json.specs.declared.errors.FlatError.{FlatError}
use Rattle.air_json.specs.declared.errors.FlatError.TheVariants as faults

-- the field of this name is the place of t, which is earlier in the list
abbrev pub HasOperand : {S : Type 0} → List ℕ → List (Tree S) → Tree S → Data → Type 0
HasOperand name done t c = (i : ℕ) × HasWhole name i c × (slice_get done i ≡ Some t)

-- the operands are t and u, and the stated degree is d
abbrev pub HasTwoOperands : {S : Type 0} → List (Tree S) → Tree S → Tree S → ℕ → Data → Type 0
HasTwoOperands done t u d c = HasWhole (codes "degree_multiple") d c × HasOperand (codes "x") done t c × HasOperand (codes "y") done u c

abbrev pub HasOneOperand : {S : Type 0} → List (Tree S) → Tree S → ℕ → Data → Type 0
HasOneOperand done t d c = HasWhole (codes "degree_multiple") d c × HasOperand (codes "x") done t c

-- After nodes with the trees `done`, the value is a node with this tree: its operands are earlier, and its stated
-- degree is the tree's, which fits `usize`.
abbrev pub SpellsNode : {S F : Type 0} → Kind S F → List (Tree S) → Data → Tree S → Type 0
SpellsNode kind done d (leaf_tree a) = IsCase (codes "Leaf") (λ c. kind.spells c a) d
SpellsNode kind done d (add_tree t u) = IsCase (codes "Add") (HasTwoOperands done t u (max (degree kind.term t) (degree kind.term u))) d
SpellsNode kind done d (sub_tree t u) = IsCase (codes "Sub") (HasTwoOperands done t u (max (degree kind.term t) (degree kind.term u))) d
SpellsNode kind done d (neg_tree t) = IsCase (codes "Neg") (HasOneOperand done t (degree kind.term t)) d
SpellsNode kind done d (mul_tree t u) = IsCase (codes "Mul") (HasTwoOperands done t u (degree kind.term t + degree kind.term u)) d × (degree kind.term t + degree kind.term u < 2 ^ 64)

-- the values are nodes with these trees, each after those before it
abbrev pub AreNodes : {S F : Type 0} → Kind S F → List (Tree S) → Items → List (Tree S) → Type 0
AreNodes kind done no_items [] = ⊤
AreNodes kind done no_items (t ∷ ts) = ⊥
AreNodes kind done (item d ds) [] = ⊥
AreNodes kind done (item d ds) (t ∷ ts) = SpellsNode kind done d t × AreNodes kind (done ++ t ∷ []) ds ts

-- the value is a list of nodes whose last node, the root, has the tree o
pub record IsList {S F : Type 0} (kind : Kind S F) (d : Data) (o : Option (Tree S)) : Type 0 where
  pub items : Items
  pub before : List (Tree S)
  pub root : Tree S
  pub tree : o ≡ Some root
  pub is : as_array d ≡ Some items
  pub nodes : AreNodes kind [] items (before ++ root ∷ [])

-- the first value that isn't a node has this fault
abbrev pub FirstFault : {S F : Type 0} → Kind S F → List (Tree S) → Items → FlatError → Type 0
FirstFault kind done no_items f = ⊥
FirstFault {S} kind done (item d ds) f = NodeFault kind done d f ⊎ ((t : Tree S) × SpellsNode kind done d t × FirstFault kind (done ++ t ∷ []) ds f)

abbrev pub ItemsFault : {S F : Type 0} → Kind S F → Items → FlatError → Type 0
ItemsFault kind no_items f = f ≡ faults.EmptyList
ItemsFault kind (item d ds) f = FirstFault kind [] (item d ds) f

-- the value is no list of nodes, and this is its first fault
abbrev pub HasFault : {S F : Type 0} → Kind S F → Data → FlatError → Type 0
HasFault kind d f = ((as_array d ≡ None) × (f ≡ faults.Shape 0)) ⊎ ((ds : Items) × (as_array d ≡ Some ds) × ItemsFault kind ds f)
