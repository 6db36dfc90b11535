-- Rows of variables.
use Rattle.std.specs.Prelude.{◌≡◌, ℕ, List, length, Some, slice_get}
use Rattle.air_core.specs.declared.variables.entry.BaseEntry.{BaseEntry}
use Rattle.air_core.specs.declared.variables.ext_entry.ExtEntry.{ExtEntry}
use Rattle.air_core.specs.declared.variables.variable.SymbolicVariable.{SymbolicVariable}
use Rattle.air_core.specs.declared.variables.variable_ext.SymbolicVariableExt.{SymbolicVariableExt}

-- the row has this width, and at each index the entry's variable of that index
pub record IsRowOf {F : Type 0} (e : BaseEntry) (width : ℕ) (row : List (SymbolicVariable F)) : Type 0 where
  pub columns : length row ≡ width
  pub each : (i : ℕ) (v : SymbolicVariable F) → slice_get row i ≡ Some v → (v.entry ≡ e) × (v.index ≡ i)

-- as `IsRowOf`, for extension variables
pub record IsExtRowOf {F EF : Type 0} (e : ExtEntry) (width : ℕ) (row : List (SymbolicVariableExt F EF)) : Type 0 where
  pub columns : length row ≡ width
  pub each : (i : ℕ) (v : SymbolicVariableExt F EF) → slice_get row i ≡ Some v → (v.entry ≡ e) × (v.index ≡ i)
