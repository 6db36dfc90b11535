-- Spelling and reading base leaves in a node.
use Rattle.std.specs.Prelude.{◌≡◌, ℕ, ◌≤◌, List, [], ◌∷◌, Option, Some, None, Result, Ok, Err, option_map, codes, if◌then◌else◌, nat_lt, bytes_eq, ok_or, refl, ⊤}
use Rattle.serde_json.specs.Data.{Data, string}
use Rattle.serde_json.specs.Find.{as_str}
use Rattle.air_field.specs.Modular.{Modular}
use Rattle.air_symbolic.specs.BaseLeaves.{base_term, base_reads, base_grows}
use Rattle.air_symbolic.specs.declared.leaves.base_leaf.BaseLeaf.{BaseLeaf}
use Rattle.air_symbolic.specs.declared.leaves.base_leaf.BaseLeaf.TheVariants as leaves
use Rattle.air_json.specs.Parts.{as_whole_number, find_name, text_or}
use Rattle.air_json.specs.Results.{◌>>=◌}
use Rattle.air_json.specs.Entries.{SpellsVariable, variable_plain}
use Rattle.air_json.specs.Spelling.{number_data, case_data, IsCase, IsWholeNumber}
use Rattle.air_json.specs.Nodes.{Kind}
use Rattle.air_json.specs.LeafFaults.{OwnFaultOr}
use Rattle.air_json.specs.Unshared.{WireLaws}
use Rattle.air_json.specs.declared.errors.FlatError.{FlatError}
use Rattle.air_json.specs.declared.errors.FlatError.TheVariants as faults

abbrev pub SpellsLeaf : {F : Type 0} {p : ℕ} → Modular F p → Data → BaseLeaf F → Type 0
SpellsLeaf m d (leaves.Variable v) = IsCase (codes "Variable") (λ c. SpellsVariable c v) d
SpellsLeaf m d leaves.IsFirstRow = d ≡ string (codes "IsFirstRow")
SpellsLeaf m d leaves.IsLastRow = d ≡ string (codes "IsLastRow")
SpellsLeaf m d leaves.IsTransition = d ≡ string (codes "IsTransition")
SpellsLeaf m d (leaves.Constant x) = IsCase (codes "Constant") (IsWholeNumber (m.value x)) d

-- ---- the fault of a value that spells no leaf

-- a whole number not below the modulus p
abbrev pub IsPast : ℕ → Data → Type 0
IsPast p c = (n : ℕ) × IsWholeNumber n c × (p ≤ n)

-- a constant has a fault of its own if its number is whole, but not canonical
abbrev pub OwnLeafFault : ℕ → ℕ → Data → FlatError → Type 0
OwnLeafFault p place d f = IsCase (codes "Constant") (IsPast p) d × (f ≡ faults.NotCanonical place)

abbrev pub LeafFault : {F : Type 0} {p : ℕ} → Modular F p → ℕ → Data → FlatError → Type 0
LeafFault {p = p} m = OwnFaultOr (SpellsLeaf m) (OwnLeafFault p)

-- ---- writing

abbrev pub leaf_data : {F : Type 0} {p : ℕ} → Modular F p → BaseLeaf F → Data
leaf_data m (leaves.Variable v) = case_data (codes "Variable") (variable_plain.written v)
leaf_data m leaves.IsFirstRow = string (codes "IsFirstRow")
leaf_data m leaves.IsLastRow = string (codes "IsLastRow")
leaf_data m leaves.IsTransition = string (codes "IsTransition")
leaf_data m (leaves.Constant x) = case_data (codes "Constant") (number_data (m.value x))

abbrev pub WritesLeaf : {F : Type 0} {p : ℕ} → Modular F p → Data → BaseLeaf F → Type 0
WritesLeaf m d a = d ≡ leaf_data m a

-- ---- reading

-- the field element of a canonical number
abbrev pub element_or : {F : Type 0} {p : ℕ} → Modular F p → ℕ → Option ℕ → Result F FlatError
element_or m place None = Err (faults.Shape place)
element_or {p = p} m place (Some n) = if nat_lt n p then Ok (m.class n) else Err (faults.NotCanonical place)

unfoldable pub element_at : {F : Type 0} {p : ℕ} → Modular F p → ℕ → Data → Result F FlatError
element_at m place d = element_or m place (as_whole_number d)

-- leaves without contents, by name
abbrev pub bare_leaves : {F : Type 0} → List (List ℕ × BaseLeaf F)
bare_leaves = (codes "IsFirstRow", leaves.IsFirstRow) ∷ (codes "IsLastRow", leaves.IsLastRow) ∷ (codes "IsTransition", leaves.IsTransition) ∷ []

abbrev pub bare_leaf : {F : Type 0} → ℕ → List ℕ → Result (BaseLeaf F) FlatError
bare_leaf place name = ok_or (find_name bare_leaves name) (faults.Shape place)

-- a leaf with contents, by name
abbrev pub leaf_with : {F : Type 0} {p : ℕ} → Modular F p → ℕ → List ℕ → Data → Result (BaseLeaf F) FlatError
leaf_with m place name d =
    if bytes_eq name (codes "Variable") then ok_or (option_map (λ v. leaves.Variable v) (variable_plain.read d)) (faults.Shape place)
    else (if bytes_eq name (codes "Constant") then (element_at m place d >>= λ c. Ok (leaves.Constant c))
    else Err (faults.Shape place))

-- the leaf that a value spells in the node at a place, or the value's fault
unfoldable pub leaf_at : {F : Type 0} {p : ℕ} → Modular F p → ℕ → Data → Result (BaseLeaf F) FlatError
leaf_at m place d = text_or (Err (faults.Shape place)) (bare_leaf place) (leaf_with m place) (as_str d) d

abbrev pub base_kind : {F : Type 0} {p : ℕ} → Modular F p → Kind (BaseLeaf F) F
base_kind m = record { spells = SpellsLeaf m; writes = WritesLeaf m; fault = LeafFault m; leaf_at = leaf_at m; term = base_term }

-- a base leaf has no numbers of a pool
abbrev pub base_seen : {F : Type 0} → ⊤ → BaseLeaf F → BaseLeaf F
base_seen u a = a

pub base_wire_laws : {F : Type 0} → WireLaws (base_reads {F = F}) base_grows base_seen base_term
base_wire_laws = record { term_is = λ u a. refl; kept = λ u v g a h. refl; one = λ u a b h k e. e }
