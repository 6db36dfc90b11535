-- Which values make a matrix.
use Rattle.std.specs.Prelude.{ℕ, ◌%◌, ◌==◌, Bool, not, List, length, Result, Ok, Err, if◌then◌else◌}
use Rattle.air_field.specs.Grid.{Grid, grid_of}
use Rattle.air_field.specs.declared.errors.MatrixError.{MatrixError}
use Rattle.air_field.specs.declared.errors.MatrixError.TheVariants.{Ragged}

-- `len` values don't make whole rows of this width
abbrev pub is_ragged : ℕ → ℕ → Bool
is_ragged len width = if width == 0 then not (len == 0) else not (len % width == 0)

-- the matrix of the values, or the error
abbrev pub matrix_of : {T : Type 0} → ℕ → List T → Result (Grid T) MatrixError
matrix_of width values = if is_ragged (length values) width then Err (Ragged (length values) width) else Ok (grid_of width values)
