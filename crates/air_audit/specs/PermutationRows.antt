-- The failures of a row of a trace and of its permutation trace.
use Rattle.std.specs.Prelude.{◌≡◌, List, map, Bool}
use Rattle.air_builder.specs.Assertion.{Assertion}
use Rattle.air_report.specs.Debug.{RowData, nonzero_by}
use Rattle.air_report.specs.Report.{failure_place}
use Rattle.air_report.specs.declared.debug.failure.ConstraintFailure.{ConstraintFailure}

-- the failures are those of the constraints that aren't zero at the row, in order
abbrev pub FailAtRow : {F E : Type 0} → (RowData F E → Assertion F → Bool) → RowData F E → List (Assertion F) → List ConstraintFailure → Type 0
FailAtRow zero row ts failures = map failure_place failures ≡ map (λ k. (row.row, k)) (nonzero_by (zero row) 0 ts)
