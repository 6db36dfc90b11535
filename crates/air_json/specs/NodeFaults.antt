-- The first fault of a value that isn't a node.
use Rattle.std.specs.Prelude.{◌≡◌, ◌≢◌, ℕ, ◌+◌, ◌≤◌, ◌<◌, ◌^◌, ◌⊎◌, max, List, length, Some, codes}
use Rattle.std.specs.List.{slice_get}
use Rattle.serde_json.specs.Data.{Data}
use Rattle.air_symbolic.specs.Trees.{Tree}
use Rattle.air_json.specs.Spelling.{IsCase, HasWhole}
use Rattle.air_json.specs.Unshared.{degree}
use Rattle.air_json.specs.Nodes.{Kind}
use Rattle.air_json.specs.declared.errors.FlatError.{FlatError}
use Rattle.air_json.specs.declared.errors.FlatError.TheVariants as faults

-- The form of a node: a leaf's contents, or the stated degree and the operands' places.
pub data Form : Type 0 where
  leaf_form : Data → Form
  add_form : ℕ → ℕ → ℕ → Form
  sub_form : ℕ → ℕ → ℕ → Form
  mul_form : ℕ → ℕ → ℕ → Form
  neg_form : ℕ → ℕ → Form

abbrev pub HasTwoWholes : ℕ → ℕ → ℕ → Data → Type 0
HasTwoWholes n x y c = HasWhole (codes "degree_multiple") n c × HasWhole (codes "x") x c × HasWhole (codes "y") y c

abbrev pub HasOneWhole : ℕ → ℕ → Data → Type 0
HasOneWhole n x c = HasWhole (codes "degree_multiple") n c × HasWhole (codes "x") x c

abbrev pub SpellsForm : Data → Form → Type 0
SpellsForm d (leaf_form c) = IsCase (codes "Leaf") (λ e. e ≡ c) d
SpellsForm d (add_form n x y) = IsCase (codes "Add") (HasTwoWholes n x y) d
SpellsForm d (sub_form n x y) = IsCase (codes "Sub") (HasTwoWholes n x y) d
SpellsForm d (mul_form n x y) = IsCase (codes "Mul") (HasTwoWholes n x y) d
SpellsForm d (neg_form n x) = IsCase (codes "Neg") (HasOneWhole n x) d

-- the operand's place i isn't earlier than the node
abbrev pub IsLate : {S : Type 0} → List (Tree S) → ℕ → FlatError → Type 0
IsLate before i f = (length before ≤ i) × (f ≡ faults.Operand (length before) i)

-- the tree at place i is t
abbrev pub IsTreeAt : {S : Type 0} → List (Tree S) → ℕ → Tree S → Type 0
IsTreeAt before i t = slice_get before i ≡ Some t

abbrev pub IsMisstated : {S : Type 0} → List (Tree S) → ℕ → ℕ → FlatError → Type 0
IsMisstated before n found f = (n ≢ found) × (f ≡ faults.WrongDegree (length before) n found)

-- the first fault of the operands x and y, or else a fault `rest` of their trees
abbrev pub OperandsFault : {S : Type 0} → List (Tree S) → ℕ → ℕ → (Tree S → Tree S → FlatError → Type 0) → FlatError → Type 0
OperandsFault {S} before x y rest f =
    IsLate before x f ⊎ ((t : Tree S) × IsTreeAt before x t × (IsLate before y f ⊎ ((u : Tree S) × IsTreeAt before y u × rest t u f)))

abbrev pub SumFault : {S F : Type 0} → Kind S F → List (Tree S) → ℕ → Tree S → Tree S → FlatError → Type 0
SumFault kind before n t u f = IsMisstated before n (max (degree kind.term t) (degree kind.term u)) f

abbrev pub ProductFault : {S F : Type 0} → Kind S F → List (Tree S) → ℕ → Tree S → Tree S → FlatError → Type 0
ProductFault kind before n t u f =
    ((2 ^ 64 ≤ degree kind.term t + degree kind.term u) × (f ≡ faults.DegreeOverflow))
    ⊎ ((degree kind.term t + degree kind.term u < 2 ^ 64) × IsMisstated before n (degree kind.term t + degree kind.term u) f)

-- the first fault of a node of this form: a leaf's own, or that of operand x, else of operand y, else of the degree
abbrev pub FormFault : {S F : Type 0} → Kind S F → List (Tree S) → Form → FlatError → Type 0
FormFault kind before (leaf_form c) f = kind.fault (length before) c f
FormFault kind before (add_form n x y) f = OperandsFault before x y (SumFault kind before n) f
FormFault kind before (sub_form n x y) f = OperandsFault before x y (SumFault kind before n) f
FormFault kind before (mul_form n x y) f = OperandsFault before x y (ProductFault kind before n) f
FormFault {S} kind before (neg_form n x) f = IsLate before x f ⊎ ((t : Tree S) × IsTreeAt before x t × IsMisstated before n (degree kind.term t) f)

-- after nodes with the trees `before`, the value has no form, or a form whose first fault is f
abbrev pub NodeFault : {S F : Type 0} → Kind S F → List (Tree S) → Data → FlatError → Type 0
NodeFault kind before d f = (((m : Form) → SpellsForm d m → ⊥) × (f ≡ faults.Shape (length before))) ⊎ ((m : Form) × SpellsForm d m × FormFault kind before m f)
