-- Line counts, and the faults that are refusals.
use Rattle.std.specs.Prelude.{ℕ, ◌+◌, ◌-◌, ◌^◌, min, ⊤}
use Rattle.air_json.specs.declared.errors.FlatError.{FlatError}
use Rattle.air_json.specs.declared.errors.FlatError.TheVariants as errors
use Rattle.test_lines.specs.declared.faults.Fault.{Fault}
use Rattle.test_lines.specs.declared.faults.Fault.TheVariants.{Memory, Stream, Air, List, Matrix, Unreadable}

-- one more, up to the largest 64-bit number
abbrev pub one_more : ℕ → ℕ
one_more n = min (n + 1) (2 ^ 64 - 1)

-- the fault of a list's error; out of memory is one fault for all
abbrev pub list_fault : FlatError → Fault
list_fault errors.Memory = Memory
list_fault error = List error

-- a call was refused, and not because it ran out of memory
abbrev pub IsRefusal : Fault → Type 0
IsRefusal fault = elim fault [
  | Memory ↦ ⊥
  | Stream ↦ ⊥
  | Air _ ↦ ⊤
  | List _ ↦ ⊤
  | Matrix _ ↦ ⊤
  | Unreadable _ ↦ ⊥
]
