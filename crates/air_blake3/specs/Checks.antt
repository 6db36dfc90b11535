-- The consequences of a check of a trace of compressions.
use Rattle.std.specs.Prelude.{◌≡◌, ℕ, ◌*◌, ◌^◌, ◌<◌, ◌↔◌, [], length, Bool, true, Option, None}
use Rattle.air_field.specs.Assignment.{row_assignment}
use Rattle.air_field.specs.Grid.{Grid}
use Rattle.air_field.specs.Ring.{CommRing}
use Rattle.air_builder.specs.Declaration.{plain_declaration}
use Rattle.air_report.specs.Instances.{Instance, instance, instance_trace}
use Rattle.air_report.specs.Checks.{CheckRefuses, IsReport}
use Rattle.air_core.specs.declared.errors.AirError.{AirError}
use Rattle.air_report.specs.declared.checks.report.ConstraintReport.{ConstraintReport}
use Rattle.air_blake3.specs.Row.{compression}
use Rattle.air_blake3.specs.Holding.{HoldsCompression}
use Rattle.air_blake3.specs.Traces.{AreCompressionRows}

-- `Compression` on a trace, as a check sees it
abbrev pub compression_instance : {F : Type 0} → CommRing F → Grid F → Instance F
compression_instance R main = instance (plain_declaration (compression R) 9168 0) main []

-- The answer of a check without a cap: the trace has an exact report, and the answer is true exactly if the report lists no
-- failure.
pub record AnswersCheck {F : Type 0} (R : CommRing F) (eq : F → F → Bool) (main : Grid F) (answer : Bool) : Type 0 where
  pub report : ConstraintReport
  pub exact : IsReport R eq (compression_instance R main) None report
  pub is_empty : (answer ≡ true) ↔ (report.failures.items ≡ [])

-- the errors of a check without a cap
abbrev pub RefusesCheck : {F : Type 0} → CommRing F → (F → F → Bool) → Grid F → AirError → Type 0
RefusesCheck R eq main e = CheckRefuses R eq (compression_instance R main) None e

-- at each row, the output columns hold the BLAKE3 compression of the block in the input columns
abbrev pub AreCompressions : {F : Type 0} → CommRing F → Grid F → Type 0
AreCompressions R main =
    (row : ℕ) → row < length main.rows
    → HoldsCompression R (row_assignment R (instance_trace (compression_instance R main)) row)

-- `AreCompressions`, over a field of large enough characteristic
abbrev pub HoldCompressions : {F : Type 0} → CommRing F → ℕ → Grid F → Type 0
HoldCompressions R characteristic main = 3 * 2 ^ 16 < characteristic → AreCompressions R main

-- if an exact report without a cap lists no failure, its trace holds compressions
abbrev pub EmptyReportsAreSound : {F : Type 0} → CommRing F → (F → F → Bool) → ℕ → Type 0
EmptyReportsAreSound {F} R eq characteristic =
    (main : Grid F) (report : ConstraintReport)
    → IsReport R eq (compression_instance R main) None report → report.failures.items ≡ []
    → HoldCompressions R characteristic main

-- every exact report on the trace, with any cap, lists no failure
abbrev pub ReportsListNothing : {F : Type 0} → CommRing F → (F → F → Bool) → Grid F → Type 0
ReportsListNothing R eq main =
    (cap : Option ℕ) (report : ConstraintReport)
    → IsReport R eq (compression_instance R main) cap report → report.failures.items ≡ []

-- reports list no failure if each row satisfies all constraints, whatever the other values at the row are
abbrev pub ReportsAreEmpty : {F : Type 0} → CommRing F → (F → F → Bool) → F → Type 0
ReportsAreEmpty {F} R eq none = (main : Grid F) → AreCompressionRows R none main → ReportsListNothing R eq main

-- reports on the trace list no failure, over a field of large enough characteristic
abbrev pub ListNothing : {F : Type 0} → CommRing F → (F → F → Bool) → ℕ → Grid F → Type 0
ListNothing R eq characteristic main = 3 * 2 ^ 16 < characteristic → ReportsListNothing R eq main
