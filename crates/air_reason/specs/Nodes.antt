-- Why data are no list of nodes.
use Rattle.std.specs.Prelude.{ℕ, List, [], ◌∷◌, ◌++◌, Option, Some, None, Result, Ok, Err, option_map, option_and_then, unwrap_or, codes, decimal, if◌then◌else◌, is_some, bytes_eq}
use Rattle.serde_json.specs.Data.{Data, Items}
use Rattle.serde_json.specs.Find.{as_array, as_str, get_item}
use Rattle.air_field.specs.Modular.{Modular}
use Rattle.air_symbolic.specs.Trees.{Tree}
use Rattle.air_symbolic.specs.declared.leaves.base_leaf.BaseLeaf.{BaseLeaf}
use Rattle.air_json.specs.BaseLeaves.{base_kind}
use Rattle.air_json.specs.Faults.{air_fault}
use Rattle.air_json.specs.Nodes.{root_of}
use Rattle.air_json.specs.Parts.{only_member}
use Rattle.air_json.specs.declared.errors.FlatError.{FlatError}
use Rattle.air_json.specs.declared.errors.FlatError.TheVariants as faults
use Rattle.air_reason.specs.Reasons.{Reason, Check}

-- a text behind the path of the node at this place
abbrev pub at_node : ℕ → List ℕ → List ℕ
at_node at text = codes ".nodes[" ++ (decimal at ++ (codes "]" ++ text))

-- the data at this place of a list are no node
abbrev pub no_node_text : ℕ → Option Items → List ℕ
no_node_text at None = codes ": not a list"
no_node_text at (Some ds) = at_node at (codes ": not a node")

-- what is wrong with a list over a field of order p that has this fault
unfoldable pub list_text : ℕ → Data → FlatError → List ℕ
list_text p d faults.Memory = codes ": out of memory"
list_text p d faults.DegreeOverflow = codes ": a degree is not below 2^64"
list_text p d (faults.Shape at) = no_node_text at (as_array d)
list_text p d faults.EmptyList = codes ": a list without nodes"
list_text p d (faults.Operand at operand) = at_node at (codes ": operand " ++ (decimal operand ++ codes " is not an earlier node"))
list_text p d (faults.WrongDegree at stated found) = at_node at (codes ": degree " ++ (decimal stated ++ (codes " is stated, " ++ (decimal found ++ codes " is right"))))
list_text p d (faults.NotCanonical at) = at_node at (codes ": the constant is not below the modulus " ++ decimal p)

abbrev pub list_reason : {X : Type 0} → ℕ → Data → Result X FlatError → Option Reason
list_reason p d (Ok tree) = None
list_reason p d (Err f) = Some (record { error = air_fault f; text = list_text p d f })

-- a constraint: a list of nodes
abbrev pub constraint : {F : Type 0} {p : ℕ} → Modular F p → Check
constraint {p = p} m d = list_reason p d (root_of (base_kind m) d)
