-- The object that is written.
use Rattle.std.specs.Prelude.{ℕ, List, map, Option, Some, None, Vec, String, string_bytes, codes}
use Rattle.std.specs.Global.{Global}
use Rattle.std.specs.Option.{option_map}
use Rattle.serde_json.specs.Data.{Data, Members, null, string, array, object, member, no_members}
use Rattle.serde_json.specs.View.{items_of}
use Rattle.air_field.specs.Modular.{Modular}
use Rattle.air_symbolic.specs.ExtLeaves.{BaseNodes}
use Rattle.air_symbolic.specs.Pools.{tree_at}
use Rattle.air_symbolic.specs.Trees.{Tree}
use Rattle.air_symbolic.specs.declared.leaves.base_leaf.BaseLeaf.{BaseLeaf}
use Rattle.air_core.specs.declared.boundary.BoundaryPublic.{BoundaryPublic}
use Rattle.air_json.specs.Boundaries.{cell_data}
use Rattle.air_json.specs.Coefficients.{number_items}
use Rattle.air_json.specs.Spelling.{number_data}
use Rattle.air_object.specs.Members.{TableValues, Made, made, table_of}
use Rattle.air_object.specs.declared.writing.ObjectParts.{ObjectParts}

-- ---- the values of the members

abbrev pub elements_data : {F : Type 0} {p : ℕ} → Modular F p → List F → Data
elements_data m xs = array (number_items m xs)

abbrev pub columns_data : {F : Type 0} {p : ℕ} → Modular F p → List (Vec F Global) → Data
columns_data m columns = array (items_of (map (λ c. elements_data m c.items) columns))

abbrev pub cells_data : List BoundaryPublic → Data
cells_data cells = array (items_of (map cell_data cells))

abbrev pub labels_data : List (String Global) → Data
labels_data labels = array (items_of (map (λ l. string (string_bytes l)) labels))

abbrev pub cap_data : Option ℕ → Data
cap_data None = null
cap_data (Some n) = number_data n

-- ---- the object

-- the members of a preprocessed trace, its width and its values, if there is one; then the others
abbrev pub table_members : Option (ℕ × Data) → Members → Members
table_members None others = others
table_members (Some t) others = member (codes "preprocessed") t.1 (member (codes "preprocessed_width") (number_data t.0) others)

-- the object with these values of its members
abbrev pub object_data : Data → Data → Data → List ℕ → Data → Data → ℕ → Data → Option (ℕ × Data) → Data → ℕ → Data
object_data boundary cap constraints field labels main width periodic table public weight =
    object (member (codes "boundary") boundary (member (codes "cap") cap (member (codes "constraints") constraints (member (codes "field") (string field) (member (codes "labels") labels (member (codes "main") main (member (codes "main_width") (number_data width) (member (codes "periodic") periodic (table_members table (member (codes "public_values") public (member (codes "transition_weight") (number_data weight) no_members)))))))))))

-- ---- what an object is written from, as the members that are read

abbrev pub trees_of : {F : Type 0} → BaseNodes F → List ℕ → List (Option (Tree (BaseLeaf F)))
trees_of pool roots = map (tree_at pool) roots

-- the width and the values of the preprocessed trace, if there is one
abbrev pub table_values : {F : Type 0} → ObjectParts F → Option (TableValues F)
table_values parts = option_map (λ t. (t.width, t.values.now)) parts.preprocessed

-- the input with these parts or, if the values of a trace aren't whole rows, the error of the first such trace
abbrev pub seen_parts : {F : Type 0} → ObjectParts F → Made F
seen_parts parts =
    made parts.main.width parts.main.values.now (table_of (table_values parts)) parts.public_values.now (trees_of parts.pool.now parts.roots.now) (map (λ c. c.items) parts.periodic.now) parts.cells.now parts.cap parts.transition_weight (map string_bytes parts.labels.now)
