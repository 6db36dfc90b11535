-- The builder's errors for errors of rings and matrices.
use Rattle.air_field.specs.declared.errors.RingError.{RingError}
use Rattle.air_field.specs.declared.errors.RingError.TheVariants as ring
use Rattle.air_field.specs.declared.errors.MatrixError.{MatrixError}
use Rattle.air_field.specs.declared.errors.MatrixError.TheVariants as matrix
use Rattle.air_core.specs.declared.errors.AirError.{AirError}
use Rattle.air_core.specs.declared.errors.AirError.TheVariants as air

-- the builder's error for an error of a ring
abbrev pub air_error : RingError → AirError
air_error ring.Memory = air.Memory
air_error ring.DegreeOverflow = air.DegreeOverflow

-- the builder's error for an error of a matrix
abbrev pub matrix_air_error : MatrixError → AirError
matrix_air_error (matrix.Ragged len width) = air.Ragged len width
