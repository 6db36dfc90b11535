-- The labels of an AIR's roots.
use Rattle.std.specs.Prelude.{◌≡◌, ℕ, List, [], Option, Some, None, option_map, String, string_bytes, slice_get}
use Rattle.std.specs.Global.{Global}
use Rattle.air_core.specs.Texts.{kept_text}
use Rattle.air_report.specs.declared.debug.failure.ConstraintFailure.{ConstraintFailure}

-- the bytes of a text; no bytes for no text
abbrev pub bytes_or_none : Option (String Global) → List ℕ
bytes_or_none None = []
bytes_or_none (Some s) = string_bytes s

-- the label at a root's place; empty if there is none
abbrev pub root_label : List (String Global) → ℕ → List ℕ
root_label labels root = bytes_or_none (slice_get labels root)

-- the name of a root displays the root's label
abbrev pub RootSays : List (String Global) → ℕ → Option (List ℕ) → Type 0
RootSays labels root text = text ≡ Some (root_label labels root)

-- a failure has the label of the root at its constraint's place, or none where the root has none
abbrev pub HasRootLabel : List (String Global) → ConstraintFailure → Type 0
HasRootLabel labels f = option_map string_bytes f.label ≡ kept_text (root_label labels f.constraint)
