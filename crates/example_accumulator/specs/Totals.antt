-- What the public value is of a trace that passes.
use Rattle.std.specs.Prelude.{◌≡◌, ◌<◌, ℕ, List, [], length, Bool, None, slice_index_or}
use Rattle.p3_air.specs.Author.{CommRing, plain_declaration}
use Rattle.p3_air.specs.Claims.{Grid}
use Rattle.p3_air.specs.Checks.{IsReport}
use Rattle.p3_air.specs.ConstraintReport.{ConstraintReport}
use Rattle.p3_air.specs.Instances.{Instance, instance}
use Rattle.air_chains.specs.Chains.{column_sum}
use Rattle.example_accumulator.specs.Accumulator.{accumulator}

-- `Accumulator` on a trace, as a check sees it
abbrev pub accumulator_instance : {F : Type 0} → Grid F → List F → Instance F
accumulator_instance trace public = instance (plain_declaration accumulator 2 1) trace public

-- If an exact report without a cap lists nothing, and the trace has rows, public value 0 is the sum of column 0 over them.
abbrev pub TotalIsSound : {F : Type 0} → CommRing F → (F → F → Bool) → Type 0
TotalIsSound {F} R eq =
    (trace : Grid F) (public : List F) (report : ConstraintReport)
    → IsReport R eq (accumulator_instance trace public) None report → report.failures.items ≡ [] → 0 < length trace.rows
    → slice_index_or public 0 R.zero ≡ column_sum R 0 trace.rows
