-- The answer and the errors of a fold of an AIR with its recording.
use Rattle.std.specs.Prelude.{◌≡◌, ◌⊎◌, ◌≤◌, ℕ, List, length, map, take}
use Rattle.air_field.specs.Ring.{CommRing, AlgebraOver}
use Rattle.air_field.specs.Extension.{Basis}
use Rattle.air_field.specs.Term.{Leaf}
use Rattle.air_field.specs.Value.{value}
use Rattle.air_symbolic.specs.BaseLeaves.{base_reads}
use Rattle.air_symbolic.specs.ExtLeaves.{ext_reads}
use Rattle.air_builder.specs.Assertion.{Assertion}
use Rattle.air_builder.specs.Declaration.{Declaration}
use Rattle.air_core.specs.declared.errors.AirError.{AirError}
use Rattle.air_core.specs.declared.errors.AirError.TheVariants.{Memory}
use Rattle.air_recording.specs.Folds.{sum_by_powers, recombination, ArePlacesOf, Recombines, values_at}
use Rattle.air_recording.specs.Kinds.{kind_of}
use Rattle.air_recording.specs.Recorded.{RecordsBase, RecordsExt, terms_of}
use Rattle.air_recording.specs.Recorded.{RecordRefuses, RecordingAnswers}
use Rattle.air_recording.specs.declared.layouts.air_layout.AirLayout.{AirLayout}
use Rattle.air_recording.specs.Recordings.{Recording}
use Rattle.air_folder.specs.Folder.{FolderRow, folder_leaves, values_in, FolderRefuses}
use Rattle.air_folder.specs.FolderRow.{FolderGrew}
use Rattle.air_folder.specs.declared.folder.builder.ConstraintFolder.{ConstraintFolder}
use Rattle.air_folder.specs.declared.folding.Folded.{Folded}

-- the values of the recorded base constraints at the leaves, in order
abbrev pub base_values : {F E : Type 0} → AlgebraOver F E → (Leaf → E) → Recording F E → List E
base_values a s recorded = map (value a s) (terms_of base_reads recorded.pool.base recorded.base)

-- the values of the recorded extension constraints at the leaves, in order
abbrev pub ext_values : {F E : Type 0} → AlgebraOver F E → Basis F E → (Leaf → E) → Recording F E → List E
ext_values a basis s recorded = map (value a s) (terms_of (ext_reads basis) recorded.pool recorded.ext)

-- The recording records the declared terms, and the layout has the indices of each kind. Among the values of the declared terms at the folder's leaves, those
-- at the base indices are the values of the recorded base constraints; likewise for the extension. The accumulator is Horner's fold of these values by alpha;
-- and it equals their recombination from all coordinates and whole powers that recombine these indices.
pub record IsFolded {F E : Type 0} (r : CommRing F) (a : AlgebraOver F E) (basis : Basis F E) (d : FolderRow E) (declared : List (Assertion F)) (f : Folded F E) : Type 0 where
  pub base : RecordsBase r a base_reads f.recorded.pool.base f.recorded.base declared
  pub ext : RecordsExt r a (ext_reads basis) f.recorded.pool f.recorded.ext declared
  pub places : ArePlacesOf (map kind_of declared) f.layout.base_indices.items f.layout.ext_indices.items
  pub values : List E
  pub of_declared : values ≡ values_in a (folder_leaves a d) declared
  pub at_base : values_at a.ring values f.layout.base_indices.items ≡ base_values a (folder_leaves a d) f.recorded
  pub at_ext : values_at a.ring values f.layout.ext_indices.items ≡ ext_values a basis (folder_leaves a d) f.recorded
  pub accumulator : f.accumulator ≡ sum_by_powers a.ring d.alpha values
  pub recombined : (coordinates : List (List F)) (powers : List E) → Recombines r a d.alpha f.layout.base_indices.items f.layout.ext_indices.items coordinates powers
      → recombination r a coordinates powers (base_values a (folder_leaves a d) f.recorded) (ext_values a basis (folder_leaves a d) f.recorded) ≡ f.accumulator

-- the folder grew by the first `count` assertions of the list, possibly none
pub record GrewByBeginningOf {F E : Type 0} (a : AlgebraOver F E) (b c : ConstraintFolder F E) (ts : List (Assertion F)) : Type 0 where
  pub count : ℕ
  pub within : count ≤ length ts
  pub beginning : FolderGrew a b c (take count ts)

-- The error is one of the recording; or, if the recording succeeds, `Memory` from the AIR itself, or a missing entry of the folder.
abbrev pub FoldingRefuses : {F E : Type 0} → CommRing F → AlgebraOver F E → AirLayout → Declaration F
    → FolderRow E → AirError → Type 0
FoldingRefuses r a layout d row e =
    RecordRefuses layout d e
    ⊎ (RecordingAnswers r a layout d × ((e ≡ Memory) ⊎ FolderRefuses row e d.constraints))
