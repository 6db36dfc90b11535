-- Spelling and reading extension leaves in a node.
use Rattle.std.specs.Prelude.{◌≡◌, ℕ, ◌⊎◌, List, Result, Ok, Err, option_map, codes, if◌then◌else◌, bytes_eq, ok_or}
use Rattle.serde_json.specs.Data.{Data, array}
use Rattle.air_field.specs.Ring.{AlgebraOver}
use Rattle.air_field.specs.Extension.{Basis}
use Rattle.air_field.specs.Term.{Term, leaf_term, ext_const_term}
use Rattle.air_field.specs.Modular.{Modular}
use Rattle.air_core.specs.ExtEntries.{ext_entry_leaf}
use Rattle.air_symbolic.specs.Trees.{term_of}
use Rattle.air_symbolic.specs.BaseLeaves.{base_term}
use Rattle.air_symbolic.specs.ExtTrees.{WholeLeaf, whole_base, whole_variable, whole_constant}
use Rattle.air_json.specs.Parts.{only_member, case_or}
use Rattle.air_json.specs.Results.{◌>>=◌}
use Rattle.air_json.specs.Spelling.{case_data, IsCase}
use Rattle.air_json.specs.ExtEntries.{SpellsExtVariable, ext_variable_plain}
use Rattle.air_json.specs.Coefficients.{number_items, elements_at}
use Rattle.air_json.specs.WholeNumbers.{HasPast}
use Rattle.air_json.specs.LeafFaults.{OwnFaultOr}
use Rattle.air_json.specs.Nodes.{Kind, root_of}
use Rattle.air_json.specs.NodeLists.{IsList, HasFault}
use Rattle.air_json.specs.Written.{IsWritten}
use Rattle.air_json.specs.BaseLeaves.{base_kind}
use Rattle.air_json.specs.declared.errors.FlatError.{FlatError}
use Rattle.air_json.specs.declared.errors.FlatError.TheVariants as faults

-- a Base leaf is spelt by a list of base nodes of its own, a constant by its coefficients
abbrev pub SpellsWhole : {F EF : Type 0} {p : ℕ} → Modular F p → Basis F EF → Data → WholeLeaf F EF → Type 0
SpellsWhole m basis d (whole_base t) = IsCase (codes "Base") (λ c. IsList (base_kind m) c t) d
SpellsWhole m basis d (whole_variable v) = IsCase (codes "ExtVariable") (λ c. SpellsExtVariable c v) d
SpellsWhole m basis d (whole_constant e) = IsCase (codes "ExtConstant") (λ c. c ≡ array (number_items m (basis.coefficients e))) d

-- the JSON value written for a leaf; the list of a Base leaf is independent of the outer list
abbrev pub WritesWhole : {F EF : Type 0} {p : ℕ} → Modular F p → Basis F EF → Data → WholeLeaf F EF → Type 0
WritesWhole m basis d (whole_base t) = IsCase (codes "Base") (λ c. IsWritten (base_kind m) c t) d
WritesWhole m basis d (whole_variable v) = d ≡ case_data (codes "ExtVariable") (ext_variable_plain.written v)
WritesWhole m basis d (whole_constant e) = d ≡ case_data (codes "ExtConstant") (array (number_items m (basis.coefficients e)))

abbrev pub whole_leaf_term : {F EF : Type 0} → Basis F EF → WholeLeaf F EF → Term F
whole_leaf_term basis (whole_base t) = term_of base_term t
whole_leaf_term basis (whole_variable v) = leaf_term (ext_entry_leaf v.entry v.index)
whole_leaf_term basis (whole_constant c) = ext_const_term (basis.coefficients c)

-- ---- the fault of a value that spells no leaf

-- a fault in a leaf's nested list, reported at the place of the leaf's node
abbrev pub at_place : ℕ → FlatError → FlatError
at_place place faults.Memory = faults.Memory
at_place place faults.DegreeOverflow = faults.DegreeOverflow
at_place place (faults.Shape inner) = faults.Shape place
at_place place faults.EmptyList = faults.EmptyList
at_place place (faults.Operand inner i) = faults.Operand place i
at_place place (faults.WrongDegree inner d found) = faults.WrongDegree place d found
at_place place (faults.NotCanonical inner) = faults.NotCanonical place

-- A Base leaf has the first fault of its list, reported at the leaf's place. A constant of `count` whole numbers has
-- the fault `NotCanonical` if one of them is not below the modulus.
abbrev pub OwnWholeFault : {F : Type 0} {p : ℕ} → Modular F p → ℕ → ℕ → Data → FlatError → Type 0
OwnWholeFault {p = p} m count place d f =
    IsCase (codes "Base") (λ c. (g : FlatError) × HasFault (base_kind m) c g × (f ≡ at_place place g)) d
    ⊎ (IsCase (codes "ExtConstant") (HasPast p count) d × (f ≡ faults.NotCanonical place))

abbrev pub WholeFault : {F EF : Type 0} {p : ℕ} → Modular F p → Basis F EF → ℕ → ℕ → Data → FlatError → Type 0
WholeFault m basis count = OwnFaultOr (SpellsWhole m basis) (OwnWholeFault m count)

-- ---- reading

abbrev pub faults_at : {A : Type 0} → ℕ → Result A FlatError → Result A FlatError
faults_at place (Ok a) = Ok a
faults_at place (Err f) = Err (at_place place f)

abbrev pub lifted_at : {F EF : Type 0} {p : ℕ} → Modular F p → ℕ → Data → Result (WholeLeaf F EF) FlatError
lifted_at m place c = faults_at place (root_of (base_kind m) c) >>= λ t. Ok (whole_base t)

abbrev pub ext_constant_at : {F EF : Type 0} {p : ℕ} → Modular F p → AlgebraOver F EF → ℕ → ℕ → Data → Result EF FlatError
ext_constant_at m a count place c = elements_at m count place c >>= λ cs. Ok (a.extend cs)

abbrev pub ext_leaf_with : {F EF : Type 0} {p : ℕ} → Modular F p → AlgebraOver F EF → ℕ → ℕ → List ℕ → Data → Result (WholeLeaf F EF) FlatError
ext_leaf_with m a count place name c =
    if bytes_eq name (codes "Base") then lifted_at m place c
    else (if bytes_eq name (codes "ExtVariable") then ok_or (option_map (λ v. whole_variable v) (ext_variable_plain.read c)) (faults.Shape place)
    else (if bytes_eq name (codes "ExtConstant") then (ext_constant_at m a count place c >>= λ e. Ok (whole_constant e))
    else Err (faults.Shape place)))

-- the leaf that a value spells in the node at a place, or the value's fault
unfoldable pub ext_leaf_at : {F EF : Type 0} {p : ℕ} → Modular F p → AlgebraOver F EF → ℕ → ℕ → Data → Result (WholeLeaf F EF) FlatError
ext_leaf_at m a count place d = case_or (Err (faults.Shape place)) (ext_leaf_with m a count place) (only_member d)

-- extension leaves with `count` coefficients
abbrev pub ext_kind : {F EF : Type 0} {p : ℕ} → Modular F p → AlgebraOver F EF → Basis F EF → ℕ → Kind (WholeLeaf F EF) F
ext_kind m a basis count = record { spells = SpellsWhole m basis; writes = WritesWhole m basis; fault = WholeFault m basis count; leaf_at = ext_leaf_at m a count; term = whole_leaf_term basis }
