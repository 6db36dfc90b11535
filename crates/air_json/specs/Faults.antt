-- Faults of JSON values.
use Rattle.air_core.specs.declared.errors.AirError.{AirError}
use Rattle.air_core.specs.declared.errors.AirError.TheVariants as air
use Rattle.air_field.specs.declared.errors.RingError.{RingError}
use Rattle.air_field.specs.declared.errors.RingError.TheVariants as ring
use Rattle.air_json.specs.declared.errors.FlatError.{FlatError}
use Rattle.air_json.specs.declared.errors.FlatError.TheVariants as faults

-- the fault for an error of a pool
abbrev pub ring_fault : RingError → FlatError
ring_fault ring.Memory = faults.Memory
ring_fault ring.DegreeOverflow = faults.DegreeOverflow

-- the error of a builder, or of a call on an AIR, for a fault
abbrev pub air_fault : FlatError → AirError
air_fault faults.Memory = air.Memory
air_fault faults.DegreeOverflow = air.DegreeOverflow
air_fault (faults.Shape at) = air.Shape at
air_fault faults.EmptyList = air.EmptyList
air_fault (faults.Operand at operand) = air.Operand at operand
air_fault (faults.WrongDegree at stated found) = air.WrongDegree at stated found
air_fault (faults.NotCanonical at) = air.NotCanonical at
