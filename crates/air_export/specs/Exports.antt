-- What an exported object holds, and which AIRs aren't exported.
use Rattle.std.specs.Prelude.{◌≡◌, ◌≢◌, ◌⊎◌, ℕ, ◌<◌, List, [], length, map, replicate, Option, Some, None, Ok, ⊤}
use Rattle.std.specs.List.{AllZip}
use Rattle.serde_json.specs.Data.{Data}
use Rattle.air_field.specs.Grid.{Grid}
use Rattle.air_field.specs.Matrix.{matrix_of}
use Rattle.air_field.specs.Ring.{CommRing, self_algebra}
use Rattle.air_field.specs.declared.matrices.view.RowMajorMatrixView.{RowMajorMatrixView}
use Rattle.air_core.specs.declared.errors.AirError.TheVariants.{Memory}
use Rattle.air_builder.specs.Assertion.{Assertion, Base}
use Rattle.air_builder.specs.Declaration.{Declaration, declaration_of}
use Rattle.air_recording.specs.Kinds.{ext_terms}
use Rattle.air_recording.specs.Layouts.{air_layout, LayoutRefuses}
use Rattle.air_recording.specs.Recorded.{RecordsTerm, RecordRefuses}
use Rattle.air_recording.specs.declared.layouts.air_layout.AirLayout.{AirLayout}
use Rattle.air_audit.specs.FlatAirs.{zero_at_roots}
use Rattle.air_object.specs.Fields.{field_of}
use Rattle.air_object.specs.declared.field_name.FieldName.{FieldName}
use Rattle.air_object.specs.declared.field_name.FieldName.TheVariants as fields
use Rattle.air_object.specs.declared.input.FlatInput.{FlatInput}
use Rattle.air_object.specs.declared.input.Trial.{Trial}
use Rattle.air_export.specs.declared.errors.ExportError.{ExportError}
use Rattle.air_export.specs.declared.errors.ExportError.TheVariants.{Air, BooleanTrace, ExtensionConstraints, UnknownField}

-- ---- fields

-- the number of elements of the field with this name
abbrev pub order_of : FieldName → ℕ
order_of fields.BabyBear = 2013265921
order_of fields.KoalaBear = 2130706433
order_of fields.Mersenne31 = 2147483647
order_of fields.Goldilocks = 18446744069414584321

-- the object names a field with this number of elements
abbrev pub IsOverField : ℕ → Data → Type 0
IsOverField order d = (name : FieldName) × (field_of d ≡ Some name) × (order_of name ≡ order)

-- ---- traces

-- the view has the values of the trace, row after row
pub record AreValuesOf {F : Type 0} (trace : Grid F) (v : RowMajorMatrixView F) : Type 0 where
  pub width : v.width ≡ trace.width
  pub values : matrix_of v.width v.values.now ≡ Ok trace

-- the same for a trace that may be absent
abbrev pub AreValuesIn : {F : Type 0} → Option (Grid F) → Option (RowMajorMatrixView F) → Type 0
AreValuesIn None None = ⊤
AreValuesIn None (Some v) = ⊥
AreValuesIn (Some trace) None = ⊥
AreValuesIn (Some trace) (Some v) = AreValuesOf trace v

-- ---- AIRs

-- the AIR of an input: it declares that each constraint is zero, and what the input has beside these
abbrev pub flat_declaration : {F : Type 0} → FlatInput F → Declaration F
flat_declaration i = declaration_of (zero_at_roots i.constraints.pool i.constraints.roots.items) i.beside

-- the values of periodic columns
abbrev pub periods : {F : Type 0} → Declaration F → List (List F)
periods air = map (λ column. column.items) air.periodic

-- what the AIRs declare beside constraints is the same
pub record AreAlikeBeside {F : Type 0} (one other : Declaration F) : Type 0 where
  pub width : one.width ≡ other.width
  pub num_public_values : one.num_public_values ≡ other.num_public_values
  pub preprocessed : one.preprocessed ≡ other.preprocessed
  pub periodic : periods one ≡ periods other
  pub cells : one.cells ≡ other.cells

-- the constraint u records t, which is of the base field: it has the same polynomial, the same value and no greater degree
abbrev pub RecordsConstraint : {F : Type 0} → CommRing F → Assertion F → Assertion F → Type 0
RecordsConstraint r (Base u) (Base t) = RecordsTerm (self_algebra r) u t
RecordsConstraint r _ _ = ⊥

-- at each place the written constraint records the AIR's, and all else is the same
pub record IsExportOf {F : Type 0} (r : CommRing F) (written air : Declaration F) : Type 0 where
  pub constraints : AllZip (RecordsConstraint r) written.constraints air.constraints
  pub beside : AreAlikeBeside written air

-- the AIRs declare the same
pub record AreSame {F : Type 0} (written air : Declaration F) : Type 0 where
  pub constraints : written.constraints ≡ air.constraints
  pub beside : AreAlikeBeside written air

-- ---- what an AIR is audited on

pub record IsTrial {F : Type 0} (main : Grid F) (public : List F) (cap : Option ℕ) (weight : ℕ) (t : Trial F) : Type 0 where
  pub main_is : t.main ≡ main
  pub public_is : t.public_values.items ≡ public
  pub cap_is : t.cap ≡ cap
  pub weight_is : t.transition_weight ≡ weight

-- no rows, and public values that are z
abbrev pub IsTrialWithoutRows : {F : Type 0} → F → Declaration F → Trial F → Type 0
IsTrialWithoutRows z air t = IsTrial (record { width = air.width; rows = [] }) (replicate air.num_public_values z) None 0 t

-- ---- errors

-- the AIR's layout, for a trace of this width and this number of public values
abbrev pub layout_for : {F : Type 0} → Declaration F → ℕ → ℕ → AirLayout
layout_for air width values = record {
  preprocessed_width = (air_layout air).preprocessed_width;
  main_width = width;
  num_public_values = values;
  permutation_width = 0;
  num_permutation_challenges = 0;
  num_permutation_values = 0;
  num_periodic_columns = (air_layout air).num_periodic_columns;
}

-- no object is over a field with this number of elements
abbrev pub NoField : ℕ → Type 0
NoField order = (name : FieldName) → order_of name ≢ order

-- `Memory`, or an error of the recording by this layout; that the AIR assumes a trace of bits, which only one says that has
-- its own answer; the number of constraints over an extension; the order of a field over which there is no object
abbrev pub ExportRefuses : {F : Type 0} → ℕ → Type 0 → Declaration F → ℕ → ℕ → ExportError → Type 0
ExportRefuses order own air width values (Air e) = (e ≡ Memory) ⊎ RecordRefuses (layout_for air width values) air e
ExportRefuses order own air width values BooleanTrace = (own → ⊥) → ⊥
ExportRefuses order own air width values (ExtensionConstraints n) = (n ≡ length (ext_terms air.constraints)) × (0 < n)
ExportRefuses order own air width values (UnknownField n) = (n ≡ order) × NoField order

-- the same without a recording
abbrev pub FlatExportRefuses : {F : Type 0} → ℕ → Declaration F → ℕ → ℕ → ExportError → Type 0
FlatExportRefuses order air width values (Air e) = (e ≡ Memory) ⊎ LayoutRefuses (layout_for air width values) air e
FlatExportRefuses order air width values BooleanTrace = ⊥
FlatExportRefuses order air width values (ExtensionConstraints n) = ⊥
FlatExportRefuses order air width values (UnknownField n) = (n ≡ order) × NoField order
