-- The members of the object, in the order in which they are read, and what they spell.
use Rattle.std.specs.Prelude.{◌≡◌, ℕ, ◌≤◌, List, [], length, Option, Some, None, Result, Ok, Err, ◌⊎◌, codes}
use Rattle.std.specs.Result.{result_map_both}
use Rattle.serde_json.specs.Data.{Data, null, string}
use Rattle.air_field.specs.Grid.{Grid}
use Rattle.air_field.specs.Matrix.{matrix_of}
use Rattle.air_field.specs.Modular.{Modular}
use Rattle.air_field.specs.declared.errors.MatrixError.{MatrixError}
use Rattle.air_symbolic.specs.Trees.{Tree}
use Rattle.air_symbolic.specs.declared.leaves.base_leaf.BaseLeaf.{BaseLeaf}
use Rattle.air_core.specs.declared.boundary.BoundaryPublic.{BoundaryPublic}
use Rattle.air_json.specs.BaseLeaves.{base_kind}
use Rattle.air_json.specs.Boundaries.{SpellsCell}
use Rattle.air_json.specs.NodeLists.{IsList, HasFault}
use Rattle.air_json.specs.Spelling.{IsWholeNumber}
use Rattle.air_json.specs.declared.errors.FlatError.{FlatError}
use Rattle.air_json.specs.declared.errors.FlatError.TheVariants as faults
use Rattle.air_object.specs.Objects.{◌>>=◌, Grammar, by_form, list_of, at_most, needed_member, optional_member, given, both_or_none}

abbrev pub whole_number : Grammar ℕ
whole_number = by_form (λ d n. IsWholeNumber n d)

-- not a whole number, or one that isn't below the modulus p
abbrev pub ElementFault : ℕ → Data → FlatError → Type 0
ElementFault p d f = (((n : ℕ) → IsWholeNumber n d → ⊥) × (f ≡ faults.Shape 0)) ⊎ ((n : ℕ) × IsWholeNumber n d × (p ≤ n) × (f ≡ faults.NotCanonical 0))

-- a field element, by its canonical number
abbrev pub element : {F : Type 0} {p : ℕ} → Modular F p → Grammar F
element {p = p} m = record { spells = λ d x. IsWholeNumber (m.value x) d; fault = ElementFault p }

-- a list of nodes, as the tree of its root
abbrev pub constraint : {F : Type 0} {p : ℕ} → Modular F p → Grammar (Option (Tree (BaseLeaf F)))
constraint m = record { spells = IsList (base_kind m); fault = HasFault (base_kind m) }

abbrev pub boundary_cell : Grammar BoundaryPublic
boundary_cell = by_form SpellsCell

-- null means no cap
abbrev pub SpellsCap : Data → Option ℕ → Type 0
SpellsCap d None = d ≡ null
SpellsCap d (Some n) = IsWholeNumber n d

abbrev pub cap : Grammar (Option ℕ)
cap = by_form SpellsCap

abbrev pub label : Grammar (List ℕ)
label = by_form (λ d text. d ≡ string text)

-- at most n labels, one for each of the first constraints
abbrev pub labels : ℕ → Grammar (List (List ℕ))
labels n = optional_member (codes "labels") [] (at_most n (list_of label))

-- a width, and the values of rows of that width
abbrev pub TableValues : Type 0 → Type 0
TableValues F = ℕ × List F

-- the preprocessed trace with these values, if there is one
abbrev pub table_of : {F : Type 0} → Option (TableValues F) → Result (Option (Grid F)) MatrixError
table_of None = Ok None
table_of (Some t) = result_map_both (λ table. Some table) (λ f. f) (matrix_of t.0 t.1)

-- both matrices, or the error of the first that isn't one
abbrev pub both_matrices : {F : Type 0} → Result (Grid F) MatrixError → Result (Option (Grid F)) MatrixError → Result (Grid F × Option (Grid F)) MatrixError
both_matrices (Err f) table = Err f
both_matrices (Ok main) (Err f) = Err f
both_matrices (Ok main) (Ok table) = Ok (main, table)

-- what an input has, each constraint as its tree
pub record MemberValues (F : Type 0) : Type 0 where
  pub width : ℕ
  pub main : Grid F
  pub preprocessed : Option (Grid F)
  pub num_public_values : ℕ
  pub public_values : List F
  pub constraints : List (Option (Tree (BaseLeaf F)))
  pub periodic : List (List F)
  pub boundary : List BoundaryPublic
  pub cap : Option ℕ
  pub weight : ℕ
  pub labels : List (List ℕ)

-- what an object has or, if the values of a trace aren't whole rows, the error of the first such trace
abbrev pub Made : Type 0 → Type 0
Made F = Result (MemberValues F) MatrixError

-- the input with these members, in the order in which they are read
abbrev pub made : {F : Type 0} → ℕ → List F → Result (Option (Grid F)) MatrixError → List F → List (Option (Tree (BaseLeaf F))) → List (List F) → List BoundaryPublic → Option ℕ → ℕ → List (List ℕ) → Made F
made width main preprocessed public_values constraints periodic boundary cap weight labels =
    result_map_both (λ matrices. record {
      width = width;
      main = matrices.0;
      preprocessed = matrices.1;
      num_public_values = length public_values;
      public_values = public_values;
      constraints = constraints;
      periodic = periodic;
      boundary = boundary;
      cap = cap;
      weight = weight;
      labels = labels;
    }) (λ f. f) (both_matrices (matrix_of width main) preprocessed)

-- the preprocessed trace: its width and its values row after row, both or neither
abbrev pub table : {F : Type 0} {p : ℕ} → Modular F p → Grammar (Result (Option (Grid F)) MatrixError)
table m = do
  rows ← both_or_none (codes "preprocessed_width") whole_number (codes "preprocessed") (list_of (element m))
  given (table_of rows)

abbrev pub constraints : {F : Type 0} {p : ℕ} → Modular F p → Grammar (List (Option (Tree (BaseLeaf F))))
constraints m = needed_member (codes "constraints") (list_of (constraint m))

-- the whole object
abbrev pub members : {F : Type 0} {p : ℕ} → Modular F p → Grammar (Made F)
members m = do
  width ← needed_member (codes "main_width") whole_number
  main ← needed_member (codes "main") (list_of (element m))
  preprocessed ← table m
  public_values ← needed_member (codes "public_values") (list_of (element m))
  trees ← constraints m
  periodic ← optional_member (codes "periodic") [] (list_of (list_of (element m)))
  boundary ← optional_member (codes "boundary") [] (list_of boundary_cell)
  most ← optional_member (codes "cap") None cap
  weight ← optional_member (codes "transition_weight") 0 whole_number
  texts ← labels (length trees)
  given (made width main preprocessed public_values trees periodic boundary most weight texts)

-- the constraints and their labels, without the other members
abbrev pub LabelledTrees : Type 0 → Type 0
LabelledTrees F = List (Option (Tree (BaseLeaf F))) × List (List ℕ)

abbrev pub labelled_constraints : {F : Type 0} {p : ℕ} → Modular F p → Grammar (LabelledTrees F)
labelled_constraints m = do
  trees ← constraints m
  texts ← labels (length trees)
  given (trees, texts)
