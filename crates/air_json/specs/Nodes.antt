-- Reading a list of nodes, fault by fault.
use Rattle.std.specs.Prelude.{◌≡◌, ℕ, ◌+◌, ◌-◌, ◌^◌, max, List, [], ◌∷◌, ◌++◌, length, Option, Some, None, Result, Ok, Err, codes, if◌then◌else◌, nat_lt, ◌==◌, bytes_eq, ok_or}
use Rattle.std.specs.List.{slice_get}
use Rattle.serde_json.specs.Data.{Data, Items, no_items, item}
use Rattle.serde_json.specs.Find.{as_array}
use Rattle.air_field.specs.Term.{Term}
use Rattle.air_symbolic.specs.Trees.{Tree, leaf_tree, add_tree, sub_tree, neg_tree, mul_tree}
use Rattle.air_json.specs.Parts.{only_member, whole_at, all_three, find_name, case_or}
use Rattle.air_json.specs.Results.{◌>>=◌, as_some}
use Rattle.air_json.specs.Unshared.{degree}
use Rattle.air_json.specs.declared.operations.Operation.{Operation}
use Rattle.air_json.specs.declared.operations.Operation.TheVariants.{Add, Sub, Mul, Neg}
use Rattle.air_json.specs.declared.errors.FlatError.{FlatError}
use Rattle.air_json.specs.declared.errors.FlatError.TheVariants as faults

-- A kind of leaf: which values spell a leaf, which of these is written, the fault of a value that spells none in the
-- node at a place, how a leaf is read there, and a leaf's term.
pub record Kind (S F : Type 0) : Type 1 where
  pub spells : Data → S → Type 0
  pub writes : Data → S → Type 0
  pub fault : ℕ → Data → FlatError → Type 0
  pub leaf_at : ℕ → Data → Result S FlatError
  pub term : S → Term F

-- reading answers exactly the leaf that is spelt or the fault, and the written value is one spelling
pub record KindLaws {S F : Type 0} (kind : Kind S F) : Type 0 where
  pub found : (place : ℕ) (d : Data) (a : S) → kind.leaf_at place d ≡ Ok a → kind.spells d a
  pub again : (place : ℕ) (d : Data) (a : S) → kind.spells d a → kind.leaf_at place d ≡ Ok a
  pub fault_found : (place : ℕ) (d : Data) (f : FlatError) → kind.leaf_at place d ≡ Err f → kind.fault place d f
  pub fault_again : (place : ℕ) (d : Data) (f : FlatError) → kind.fault place d f → kind.leaf_at place d ≡ Err f
  pub written : (d : Data) (a : S) → kind.writes d a → kind.spells d a
  pub once : (d e : Data) (a : S) → kind.writes d a → kind.writes e a → d ≡ e

-- ---- a node after nodes with the trees `done`

-- an operand, which must be earlier
abbrev pub operand_of : {X : Type 0} → ℕ → ℕ → Option X → Result X FlatError
operand_of place i None = Err (faults.Operand place i)
operand_of place i (Some x) = Ok x

unfoldable pub operand : {X : Type 0} → List X → ℕ → Result X FlatError
operand done i = operand_of (length done) i (slice_get done i)

-- the tree, if its degree is the stated one
abbrev pub check_degree : {X : Type 0} → ℕ → ℕ → ℕ → X → Result X FlatError
check_degree place d found t = if d == found then Ok t else Err (faults.WrongDegree place d found)

-- ---- operations; the only operand of a negative is used for both

abbrev pub operations : List (List ℕ × Operation)
operations = (codes "Add", Add) ∷ (codes "Sub", Sub) ∷ (codes "Mul", Mul) ∷ (codes "Neg", Neg) ∷ []

-- the place of the second operand
abbrev pub second_of : Operation → Data → Option ℕ
second_of Add c = whole_at (codes "y") c
second_of Sub c = whole_at (codes "y") c
second_of Mul c = whole_at (codes "y") c
second_of Neg c = whole_at (codes "x") c

-- the stated degree and the places of the operands
unfoldable pub operands_of : Operation → Data → Option (ℕ × ℕ × ℕ)
operands_of op c = all_three (λ d x y. (d, x, y)) (whole_at (codes "degree_multiple") c) (whole_at (codes "x") c) (second_of op c)

-- the degree, if it fits `usize`
abbrev pub joined_degree : Operation → ℕ → ℕ → Result ℕ FlatError
joined_degree Add a b = Ok (max a b)
joined_degree Sub a b = Ok (max a b)
joined_degree Mul a b = if nat_lt (a + b) (2 ^ 64) then Ok (a + b) else Err faults.DegreeOverflow
joined_degree Neg a b = Ok a

-- the tree of an operation
abbrev pub joined_tree : {S : Type 0} → Operation → Tree S → Tree S → Tree S
joined_tree Add t u = add_tree t u
joined_tree Sub t u = sub_tree t u
joined_tree Mul t u = mul_tree t u
joined_tree Neg t u = neg_tree t

-- the operands, as trees or numbers with these degrees, if the stated degree is right
unfoldable pub operands_at : {X : Type 0} → (X → ℕ) → List X → Operation → Data
    → Result (X × X) FlatError
operands_at degree_in done op c = do
  p ← ok_or (operands_of op c) (faults.Shape (length done))
  x ← operand done p.1
  y ← operand done p.2
  found ← joined_degree op (degree_in x) (degree_in y)
  check_degree (length done) p.0 found (x, y)

-- the tree of a node with this operation, or the node's first fault
abbrev pub operation_at : {S F : Type 0} → Kind S F → List (Tree S) → Operation → Data → Result (Tree S) FlatError
operation_at kind done op c =
    operands_at (degree kind.term) done op c >>= λ p. Ok (joined_tree op p.0 p.1)

abbrev pub operation_or : {S F : Type 0} → Kind S F → List (Tree S) → Option Operation → Data → Result (Tree S) FlatError
operation_or kind done None c = Err (faults.Shape (length done))
operation_or kind done (Some op) c = operation_at kind done op c

abbrev pub leaf_node_at : {S F : Type 0} → Kind S F → ℕ → Data → Result (Tree S) FlatError
leaf_node_at kind place c = kind.leaf_at place c >>= λ a. Ok (leaf_tree a)

abbrev pub node_with : {S F : Type 0} → Kind S F → List (Tree S) → List ℕ → Data → Result (Tree S) FlatError
node_with kind done name c =
    if bytes_eq name (codes "Leaf") then leaf_node_at kind (length done) c
    else operation_or kind done (find_name operations name) c

-- the tree of the node that a value spells after nodes with the trees `done`, or its first fault
unfoldable pub node_of_value : {S F : Type 0} → Kind S F → List (Tree S) → Data → Result (Tree S) FlatError
node_of_value kind done d = case_or (Err (faults.Shape (length done))) (node_with kind done) (only_member d)

-- the trees of `done` and of the further nodes, or the first fault
unfoldable pub nodes_from : {S F : Type 0} → Kind S F → List (Tree S) → Items → Result (List (Tree S)) FlatError
nodes_from kind done no_items = Ok done
nodes_from kind done (item d ds) = node_of_value kind done d >>= λ t. nodes_from kind (done ++ t ∷ []) ds

-- the trees of the nodes so far and of the next one, or the first fault
abbrev pub node_more : {S F : Type 0} → Kind S F → Result (List (Tree S)) FlatError → Data → Result (List (Tree S)) FlatError
node_more kind so_far d = so_far >>= λ done. node_of_value kind done d >>= λ t. Ok (done ++ t ∷ [])

-- the root of a list is its last node
unfoldable pub last_tree : {S : Type 0} → List (Tree S) → Result (Tree S) FlatError
last_tree ts = ok_or (slice_get ts (length ts - 1)) faults.EmptyList

-- the tree of the root of the list that a value spells, or the first fault
unfoldable pub root_of : {S F : Type 0} → Kind S F → Data → Result (Option (Tree S)) FlatError
root_of kind d = do
  ds ← ok_or (as_array d) (faults.Shape 0)
  ts ← nodes_from kind [] ds
  as_some (last_tree ts)
