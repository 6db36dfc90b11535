-- Why a row isn't added to a trace, and why rows make none.
use Rattle.std.specs.Prelude.{◌≡◌, ℕ, List, Err, ◌≢◌, ⊤}
use Rattle.air_field.specs.Matrix.{matrix_of}
use Rattle.air_field.specs.declared.errors.MatrixError.{MatrixError}
use Rattle.air_core.specs.Errors.{matrix_air_error}
use Rattle.air_core.specs.declared.errors.AirError.{AirError}
use Rattle.air_core.specs.declared.errors.AirError.TheVariants.{Memory, Ragged}

-- memory, or a row of another length than the width
abbrev pub RowRefuses : ℕ → ℕ → AirError → Type 0
RowRefuses len width Memory = ⊤
RowRefuses len width (Ragged l w) = (l ≡ len) × ((w ≡ width) × (len ≢ width))
RowRefuses len width _ = ⊥

-- the cells make no matrix of that width
abbrev pub TraceRefuses : {F : Type 0} → ℕ → List F → AirError → Type 0
TraceRefuses width cells e = (m : MatrixError) × (matrix_of width cells ≡ Err m) × (e ≡ matrix_air_error m)
