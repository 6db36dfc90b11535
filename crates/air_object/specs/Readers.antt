-- How the code reads the members of the object.
use Rattle.std.specs.Prelude.{ℕ, List, [], ◌∷◌, ◌++◌, length, nat_lt, ◌||◌, Option, Some, None, Result, Ok, Err, option_map, codes, if◌then◌else◌, is_some, ok_or}
use Rattle.serde_json.specs.Data.{Data, Items, no_items, item}
use Rattle.serde_json.specs.Find.{get, as_array, as_null, as_str}
use Rattle.air_field.specs.Grid.{Grid}
use Rattle.air_field.specs.Modular.{Modular}
use Rattle.air_field.specs.declared.errors.MatrixError.{MatrixError}
use Rattle.air_symbolic.specs.Trees.{Tree}
use Rattle.air_symbolic.specs.declared.leaves.base_leaf.BaseLeaf.{BaseLeaf}
use Rattle.air_core.specs.declared.boundary.BoundaryPublic.{BoundaryPublic}
use Rattle.air_json.specs.BaseLeaves.{element_at, base_kind}
use Rattle.air_json.specs.Boundaries.{cell_of}
use Rattle.air_json.specs.Nodes.{root_of}
use Rattle.air_json.specs.Parts.{as_whole_number}
use Rattle.air_json.specs.Results.{◌>>=◌}
use Rattle.air_json.specs.declared.errors.FlatError.{FlatError}
use Rattle.air_json.specs.declared.errors.FlatError.TheVariants as faults
use Rattle.air_object.specs.Members.{table_of, Made, made, LabelledTrees}

abbrev pub Reader : Type 0 → Type 0
Reader X = Data → Result X FlatError

-- the value, if there is one; otherwise the form is wrong
abbrev pub or_wrong_form : {X : Type 0} → Option X → Result X FlatError
or_wrong_form o = ok_or o (faults.Shape 0)

-- ---- lists

-- the elements of `done` and of the further items, or the first fault
unfoldable pub each_from : {X : Type 0} → Reader X → List X → Items → Result (List X) FlatError
each_from read done no_items = Ok done
each_from read done (item d ds) = read d >>= λ x. each_from read (done ++ x ∷ []) ds

abbrev pub list_read : {X : Type 0} → Reader X → Reader (List X)
list_read read d = or_wrong_form (as_array d) >>= λ ds. each_from read [] ds

unfoldable pub elements : {F : Type 0} {p : ℕ} → Modular F p → Reader (List F)
elements m d = list_read (element_at m 0) d

unfoldable pub columns : {F : Type 0} {p : ℕ} → Modular F p → Reader (List (List F))
columns m d = list_read (elements m) d

abbrev pub tree : {F : Type 0} {p : ℕ} → Modular F p → Reader (Option (Tree (BaseLeaf F)))
tree m d = root_of (base_kind m) d

unfoldable pub trees : {F : Type 0} {p : ℕ} → Modular F p → Reader (List (Option (Tree (BaseLeaf F))))
trees m d = list_read (tree m) d

-- the list, if it has at most n elements; otherwise the form is wrong
abbrev pub if_at_most : {X : Type 0} → ℕ → List X → Result (List X) FlatError
if_at_most n xs = if nat_lt n (length xs) then Err (faults.Shape 0) else Ok xs

-- ---- labels

abbrev pub label_read : Reader (List ℕ)
label_read d = or_wrong_form (as_str d)

unfoldable pub labels : ℕ → Reader (List (List ℕ))
labels n d = list_read label_read d >>= if_at_most n

-- ---- boundary values

abbrev pub cell_read : Reader BoundaryPublic
cell_read d = or_wrong_form (cell_of d)

unfoldable pub cells : Reader (List BoundaryPublic)
cells d = list_read cell_read d

-- ---- the cap

unfoldable pub cap_in : Data → Option (Option ℕ)
cap_in d = if is_some (as_null d) then Some None else option_map (λ n. Some n) (as_whole_number d)

-- ---- members

abbrev pub needed_read : {X : Type 0} → List ℕ → Reader X → Reader X
needed_read name read d = or_wrong_form (get name d) >>= read

abbrev pub or_absent : {X : Type 0} → X → Reader X → Option Data → Result X FlatError
or_absent absent read None = Ok absent
or_absent absent read (Some d) = read d

abbrev pub optional_read : {X : Type 0} → List ℕ → X → Reader X → Reader X
optional_read name absent read d = or_absent absent read (get name d)

-- two readers in turn
abbrev pub both_read : {X Y : Type 0} → Reader X → Reader Y → Reader (X × Y)
both_read read next d = read d >>= λ x. next d >>= λ y. Ok (x, y)

abbrev pub if_either : {X : Type 0} → List ℕ → List ℕ → Reader X → Reader (Option X)
if_either one other read d =
    if is_some (get one d) || is_some (get other d) then (read d >>= λ x. Ok (Some x)) else Ok None

unfoldable pub width_member : List ℕ → Reader ℕ
width_member name d = needed_read name (λ c. or_wrong_form (as_whole_number c)) d

unfoldable pub elements_member : {F : Type 0} {p : ℕ} → Modular F p → List ℕ → Reader (List F)
elements_member m name d = needed_read name (elements m) d

unfoldable pub table_member : {F : Type 0} {p : ℕ} → Modular F p → Reader (Result (Option (Grid F)) MatrixError)
table_member m d =
    if_either (codes "preprocessed_width") (codes "preprocessed") (both_read (width_member (codes "preprocessed_width")) (elements_member m (codes "preprocessed"))) d >>= λ rows. Ok (table_of rows)

unfoldable pub constraints_member : {F : Type 0} {p : ℕ} → Modular F p → Reader (List (Option (Tree (BaseLeaf F))))
constraints_member m d = needed_read (codes "constraints") (trees m) d

unfoldable pub periodic_member : {F : Type 0} {p : ℕ} → Modular F p → Reader (List (List F))
periodic_member m d = optional_read (codes "periodic") [] (columns m) d

unfoldable pub boundary_member : Reader (List BoundaryPublic)
boundary_member d = optional_read (codes "boundary") [] cells d

unfoldable pub cap_member : Reader (Option ℕ)
cap_member d = optional_read (codes "cap") None (λ c. or_wrong_form (cap_in c)) d

unfoldable pub weight_member : Reader ℕ
weight_member d = optional_read (codes "transition_weight") 0 (λ c. or_wrong_form (as_whole_number c)) d

-- the labels of n constraints
unfoldable pub labels_member : ℕ → Reader (List (List ℕ))
labels_member n d = optional_read (codes "labels") [] (labels n) d

-- the constraints, which are given, and their labels
abbrev pub labelled_with : {F : Type 0} → Result (List (Option (Tree (BaseLeaf F)))) FlatError → Reader (LabelledTrees F)
labelled_with given d = do
  trees ← given
  texts ← labels_member (length trees) d
  Ok (trees, texts)

abbrev pub labelled_read : {F : Type 0} {p : ℕ} → Modular F p → Reader (LabelledTrees F)
labelled_read m d = labelled_with (constraints_member m d) d

-- the whole object, where the trace and the constraints are given
unfoldable pub members_with : {F : Type 0} {p : ℕ} → Modular F p → Result (List F) FlatError → Result (List (Option (Tree (BaseLeaf F)))) FlatError → Reader (Made F)
members_with m trace given d = do
  width ← width_member (codes "main_width") d
  main ← trace
  preprocessed ← table_member m d
  public_values ← elements_member m (codes "public_values") d
  trees ← given
  periodic ← periodic_member m d
  boundary ← boundary_member d
  most ← cap_member d
  weight ← weight_member d
  texts ← labels_member (length trees) d
  Ok (made width main preprocessed public_values trees periodic boundary most weight texts)

abbrev pub members_read : {F : Type 0} {p : ℕ} → Modular F p → Reader (Made F)
members_read m d = members_with m (elements_member m (codes "main") d) (constraints_member m d) d
