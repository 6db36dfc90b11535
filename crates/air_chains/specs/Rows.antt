-- The rows of a trace, and constraints that are zero on each of them.
use Rattle.std.specs.Prelude.{◌≡◌, ℕ, ◌<◌, List, [], length, Bool, slice_get, Option, None}
use Rattle.air_field.specs.Assignment.{Trace, row_assignment, row_or_none}
use Rattle.air_field.specs.Ring.{CommRing, self_algebra}
use Rattle.air_field.specs.Term.{Term}
use Rattle.air_field.specs.Value.{value}
use Rattle.air_builder.specs.Assertion.{Assertion}
use Rattle.air_builder.specs.Vanishing.{AllVanish}
use Rattle.air_report.specs.Cells.{violated_cells}
use Rattle.air_report.specs.Checks.{IsReport, IsSatisfied}
use Rattle.air_report.specs.Instances.{Instance, instance_trace}
use Rattle.air_report.specs.declared.checks.report.ConstraintReport.{ConstraintReport}

-- the number of rows
abbrev pub height : {F : Type 0} → Trace F → ℕ
height t = length t.main_trace.rows

-- row i of a list of rows; the empty row past the end
abbrev pub nth_row : {F : Type 0} → List (List F) → ℕ → List F
nth_row rows i = row_or_none (slice_get rows i)

-- the value of a term at a row
abbrev pub value_at : {F : Type 0} → CommRing F → Trace F → ℕ → Term F → F
value_at R t i x = value (self_algebra R) (row_assignment R t i) x

-- each constraint is zero on each row
abbrev pub HoldOnRows : {F : Type 0} → CommRing F → Trace F → List (Assertion F) → Type 0
HoldOnRows R t ts = (i : ℕ) → i < height t → AllVanish R (row_assignment R t i) ts

-- If an exact report without a cap lists nothing, each declared constraint is zero on each row.
abbrev pub EmptyReportsHold : {F : Type 0} → CommRing F → (F → F → Bool) → Type 0
EmptyReportsHold {F} R eq =
    (g : Instance F) (report : ConstraintReport) → IsReport R eq g None report → report.failures.items ≡ []
    → HoldOnRows R (instance_trace g) g.air.constraints

-- So it is if `check_constraints` answers Ok.
abbrev pub SatisfiedRowsHold : {F : Type 0} → CommRing F → (F → F → Bool) → Type 0
SatisfiedRowsHold {F} R eq = (g : Instance F) → IsSatisfied R eq g → HoldOnRows R (instance_trace g) g.air.constraints

-- If each declared constraint is zero on each row, and no boundary value is violated, every exact report lists nothing,
-- with any cap.
abbrev pub HeldRowsPass : {F : Type 0} → CommRing F → (F → F → Bool) → Type 0
HeldRowsPass {F} R eq =
    (g : Instance F) → HoldOnRows R (instance_trace g) g.air.constraints → violated_cells R eq g.main g.public g.air.cells ≡ []
    → (cap : Option ℕ) (report : ConstraintReport) → IsReport R eq g cap report → report.failures.items ≡ []
