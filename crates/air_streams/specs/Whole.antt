-- How a reading ends.
use Rattle.std.specs.Prelude.{Bool, true, false, Result, Ok, Err}
use Rattle.air_streams.specs.declared.whole.ReadFault.{ReadFault}
use Rattle.air_streams.specs.declared.whole.ReadFault.TheVariants as faults

-- the reader failed
abbrev pub is_failed : {A : Type 0} → Result A ReadFault → Bool
is_failed (Ok a) = false
is_failed (Err faults.Failed) = true
is_failed (Err faults.Memory) = false
