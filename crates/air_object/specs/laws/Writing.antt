-- What is written spells its members.
use Rattle.std.proofs.Common.{◌≡◌, ℕ, ◌≤◌, List, [], ◌∷◌, length, map, Option, Some, None, Vec, String, string_bytes, codes, refl, ap, subst, arith, inl, inr}
use Rattle.std.specs.Global.{Global}
use Rattle.std.specs.List.{AllZip}
use Rattle.std.proofs.lemmas.List.{length-map}
use Rattle.serde_json.specs.Data.{Data, array, string}
use Rattle.serde_json.specs.View.{items_of}
use Rattle.air_field.specs.declared.matrices.view.RowMajorMatrixView.{RowMajorMatrixView}
use Rattle.air_field.specs.Modular.{Modular}
use Rattle.air_symbolic.specs.ExtLeaves.{BaseNodes}
use Rattle.air_symbolic.specs.Pools.{tree_at}
use Rattle.air_symbolic.specs.Trees.{Tree}
use Rattle.air_symbolic.specs.declared.leaves.base_leaf.BaseLeaf.{BaseLeaf}
use Rattle.air_core.specs.declared.boundary.BoundaryPublic.{BoundaryPublic}
use Rattle.air_json.specs.BaseLeaves.{base_kind, base_seen}
use Rattle.air_json.specs.Boundaries.{cell_data}
use Rattle.air_json.specs.Coefficients.{number_items}
use Rattle.air_json.specs.Unshared.{seen_at}
use Rattle.air_json.specs.Written.{IsWritten}
use Rattle.air_json.specs.laws.BaseLeaves.{base_kind_laws, over_same}
use Rattle.air_json.specs.laws.Boundaries.{cell_laws}
use Rattle.air_json.specs.laws.Written.{written_list}
use Rattle.air_json.specs.Parts.{find_name}
use Rattle.air_object.specs.Fields.{field_names, field_of}
use Rattle.air_object.specs.declared.field_name.FieldName.{FieldName}
use Rattle.air_object.specs.Members.{element, constraint, boundary_cell, SpellsCap, cap, label, TableValues, table_of, made, members}
use Rattle.air_object.specs.Objects.{Grammar, list_of, AllSpell}
use Rattle.air_object.specs.Writing.{elements_data, columns_data, cells_data, labels_data, cap_data, object_data, trees_of, seen_parts}
use Rattle.air_object.specs.declared.writing.ObjectParts.{ObjectParts}

-- ---- lists

-- each value spells its element
each_spells : {X Y : Type 0} (g : Grammar Y) (value : X → Data) (of : X → Y) → ((x : X) → g.spells (value x) (of x)) → (xs : List X) → AllSpell g (items_of (map value xs)) (map of xs)
each_spells g value of one [] = tt
each_spells g value of one (x ∷ xs) = (one x, each_spells g value of one xs)

map_same : {X : Type 0} (xs : List X) → map (λ x. x) xs ≡ xs
map_same [] = refl
map_same (x ∷ xs) = ap (λ ys. x ∷ ys) (map_same xs)

pub cells_spell : (cells : List BoundaryPublic) → (list_of boundary_cell).spells (cells_data cells) cells
cells_spell cells =
    (_, refl, subst (AllSpell boundary_cell (items_of (map cell_data cells))) (map_same cells) (each_spells boundary_cell cell_data (λ c. c) cell_laws.is_spelt cells))

pub labels_spell : (labels : List (String Global)) → (list_of label).spells (labels_data labels) (map string_bytes labels)
labels_spell labels = (_, refl, each_spells label (λ l. string (string_bytes l)) string_bytes (λ l. refl) labels)

pub cap_spells : (most : Option ℕ) → SpellsCap (cap_data most) most
cap_spells None = refl
cap_spells (Some n) = refl

-- the object names its field
pub object_field : (boundary most constraints : Data) (field : List ℕ) (labels main : Data) (width : ℕ) (periodic : Data) (table : Option (ℕ × Data)) (public : Data) (weight : ℕ) (name : FieldName) → find_name field_names field ≡ Some name
    → field_of (object_data boundary most constraints field labels main width periodic table public weight) ≡ Some name
unfolding field_of
object_field boundary most constraints field labels main width periodic table public weight name h = h

module _ {F : Type 0} {p : ℕ} (m : Modular F p) where
  numbers_spell : (xs : List F) → AllSpell (element m) (number_items m xs) xs
  numbers_spell [] = tt
  numbers_spell (x ∷ xs) = (refl, numbers_spell xs)

  pub elements_spell : (xs : List F) → (list_of (element m)).spells (elements_data m xs) xs
  elements_spell xs = (_, refl, numbers_spell xs)

  pub columns_spell : (columns : List (Vec F Global)) → (list_of (list_of (element m))).spells (columns_data m columns) (map (λ c. c.items) columns)
  columns_spell columns = (_, refl, each_spells (list_of (element m)) (λ c. elements_data m c.items) (λ c. c.items) (λ c. elements_spell c.items) columns)

  written_spell : (pool : BaseNodes F) (ds : List Data) (roots : List ℕ) → AllZip (IsWritten (base_kind m)) ds (map (seen_at base_seen pool) roots) → AllSpell (constraint m) (items_of ds) (trees_of pool roots)
  written_spell pool [] [] h = tt
  written_spell pool [] (i ∷ roots) h = absurd h
  written_spell pool (d ∷ ds) [] h = absurd h
  written_spell pool (d ∷ ds) (i ∷ roots) h =
      (written_list (base_kind m) (base_kind_laws m) d (tree_at pool i) (subst (IsWritten (base_kind m) d) (over_same (tree_at pool i)) h.0), written_spell pool ds roots h.1)

  -- the lists that are written for the roots
  pub constraints_spell : (pool : BaseNodes F) (ds : List Data) (roots : List ℕ) → AllZip (IsWritten (base_kind m)) ds (map (seen_at base_seen pool) roots) → (list_of (constraint m)).spells (array (items_of ds)) (trees_of pool roots)
  constraints_spell pool ds roots h = (_, refl, written_spell pool ds roots h)

  -- ---- the object

  module _ (boundary most constraints : Data) (field : List ℕ) (labels main : Data) (width : ℕ) (periodic public : Data) (weight : ℕ) where
    -- without a preprocessed trace
    pub object_spells : (values given : List F) (trees : List (Option (Tree (BaseLeaf F)))) (columns : List (List F)) (cells : List BoundaryPublic) (limit : Option ℕ) (texts : List (List ℕ))
        → (list_of (element m)).spells main values → (list_of (element m)).spells public given → (list_of (constraint m)).spells constraints trees
        → (list_of (list_of (element m))).spells periodic columns → (list_of boundary_cell).spells boundary cells → SpellsCap most limit
        → (list_of label).spells labels texts → length texts ≤ length trees
        → (members m).spells (object_data boundary most constraints field labels main width periodic None public weight) (made width values (table_of None) given trees columns cells limit weight texts)
    object_spells values given trees columns cells limit texts a b c d e f l within =
        (width, (_, refl, refl), (values, (main, refl, a), (table_of None, (None, inl (refl, refl, refl), refl), (given, (public, refl, b), (trees, (constraints, refl, c), (columns, inr (periodic, refl, d), (cells, inr (boundary, refl, e), (limit, inr (most, refl, f), (weight, inr (_, refl, refl), (texts, inr (labels, refl, (l, within)), refl))))))))))

    -- with a preprocessed trace of this width
    pub table_spells : (broad : ℕ) (table : Data) (entries : List F) (values given : List F) (trees : List (Option (Tree (BaseLeaf F)))) (columns : List (List F)) (cells : List BoundaryPublic) (limit : Option ℕ) (texts : List (List ℕ))
        → (list_of (element m)).spells table entries
        → (list_of (element m)).spells main values → (list_of (element m)).spells public given → (list_of (constraint m)).spells constraints trees
        → (list_of (list_of (element m))).spells periodic columns → (list_of boundary_cell).spells boundary cells → SpellsCap most limit
        → (list_of label).spells labels texts → length texts ≤ length trees
        → (members m).spells (object_data boundary most constraints field labels main width periodic (Some (broad, table)) public weight) (made width values (table_of (Some (broad, entries))) given trees columns cells limit weight texts)
    table_spells broad table entries values given trees columns cells limit texts t a b c d e f l within =
        (width, (_, refl, refl), (values, (main, refl, a), (table_of (Some (broad, entries)), (Some (broad, entries), inr ((broad, entries), (broad, (_, refl, refl), (entries, (table, refl, t), refl)), refl), refl), (given, (public, refl, b), (trees, (constraints, refl, c), (columns, inr (periodic, refl, d), (cells, inr (boundary, refl, e), (limit, inr (most, refl, f), (weight, inr (_, refl, refl), (texts, inr (labels, refl, (l, within)), refl))))))))))

  -- ---- what an object is written from

  module _ (parts : ObjectParts F) (few : length parts.labels.now ≤ length parts.roots.now) where
    no_more : length (map string_bytes parts.labels.now) ≤ length (trees_of parts.pool.now parts.roots.now)
    no_more = omega (arith, few, length-map parts.labels.now string_bytes, length-map parts.roots.now (tree_at parts.pool.now))

    abbrev trees : List (Option (Tree (BaseLeaf F)))
    trees = trees_of parts.pool.now parts.roots.now

    pub parts_spell : (constraints : Data) (field : List ℕ) → parts.preprocessed ≡ None → (list_of (constraint m)).spells constraints trees
        → (members m).spells (object_data (cells_data parts.cells.now) (cap_data parts.cap) constraints field (labels_data parts.labels.now) (elements_data m parts.main.values.now) parts.main.width (columns_data m parts.periodic.now) None (elements_data m parts.public_values.now) parts.transition_weight) (seen_parts parts)
    parts_spell constraints field none given =
        rw none
        (object_spells (cells_data parts.cells.now) (cap_data parts.cap) constraints field (labels_data parts.labels.now) (elements_data m parts.main.values.now) parts.main.width (columns_data m parts.periodic.now) (elements_data m parts.public_values.now) parts.transition_weight
        parts.main.values.now parts.public_values.now trees (map (λ c. c.items) parts.periodic.now) parts.cells.now parts.cap (map string_bytes parts.labels.now)
        (elements_spell parts.main.values.now) (elements_spell parts.public_values.now) given (columns_spell parts.periodic.now) (cells_spell parts.cells.now) (cap_spells parts.cap) (labels_spell parts.labels.now) no_more)

    pub table_parts_spell : (constraints : Data) (field : List ℕ) (table : RowMajorMatrixView F) → parts.preprocessed ≡ Some table → (list_of (constraint m)).spells constraints trees
        → (members m).spells (object_data (cells_data parts.cells.now) (cap_data parts.cap) constraints field (labels_data parts.labels.now) (elements_data m parts.main.values.now) parts.main.width (columns_data m parts.periodic.now) (Some (table.width, elements_data m table.values.now)) (elements_data m parts.public_values.now) parts.transition_weight) (seen_parts parts)
    table_parts_spell constraints field table there given =
        rw there
        (table_spells (cells_data parts.cells.now) (cap_data parts.cap) constraints field (labels_data parts.labels.now) (elements_data m parts.main.values.now) parts.main.width (columns_data m parts.periodic.now) (elements_data m parts.public_values.now) parts.transition_weight
        table.width (elements_data m table.values.now) table.values.now
        parts.main.values.now parts.public_values.now trees (map (λ c. c.items) parts.periodic.now) parts.cells.now parts.cap (map string_bytes parts.labels.now)
        (elements_spell table.values.now)
        (elements_spell parts.main.values.now) (elements_spell parts.public_values.now) given (columns_spell parts.periodic.now) (cells_spell parts.cells.now) (cap_spells parts.cap) (labels_spell parts.labels.now) no_more)
