-- The answers and errors of a check of a trace.
use Rattle.std.specs.Prelude.{◌≡◌, ◌≢◌, ◌⊎◌, ℕ, ◌+◌, ◌<◌, List, [], length, map, Bool, Option, None, HoldsAt}
use Rattle.air_field.specs.Ring.{CommRing}
use Rattle.air_field.specs.Term.{Leaf}
use Rattle.air_field.specs.Assignment.{trace_shape, IsMissing}
use Rattle.air_core.specs.Boundary.{row_of}
use Rattle.air_builder.specs.Refusals.{NoneMissing}
use Rattle.air_core.specs.declared.errors.AirError.{AirError}
use Rattle.air_report.specs.Cells.{CellsFit, IsCellFault, HoldBelow, IsFirstViolated}
use Rattle.air_report.specs.Instances.{Instance, instance_trace, row_count}
use Rattle.air_report.specs.Report.{failure_place, report_of, zero_at}
pub use Rattle.air_report.specs.ReportBy.{Fits, RowRuns}
use Rattle.air_report.specs.ReportBy.{CheckedRowBy, RowsRanBy, CheckedRowsBy, IsReportBy, RowRefusesBy, RowsRefuseBy, IsCellPastCountBy, CheckRefusesBy}
use Rattle.air_report.specs.Shapes.{IsShapeFault, table_height}
use Rattle.air_report.specs.declared.checks.check_first.CheckError.{CheckError}
use Rattle.air_report.specs.declared.checks.check_first.CheckError.TheVariants.{BoundaryMismatch, RowFailed, Refused as NotChecked}
use Rattle.air_report.specs.declared.debug.failure.ConstraintFailure.{ConstraintFailure}
use Rattle.air_report.specs.declared.checks.report.ConstraintReport.{ConstraintReport}

-- the trace has no entry for the leaf
abbrev pub TraceMissing : {F : Type 0} → Instance F → Leaf → Type 0
TraceMissing g l = IsMissing (trace_shape (instance_trace g)) l

-- the trace has each entry that a declared term names
abbrev pub HasEntries : {F : Type 0} → Instance F → Type 0
HasEntries g = NoneMissing (TraceMissing g) g.air.constraints

-- A failure was added for each nonzero term of the row, in order; `count` is the number of constraints.
abbrev pub CheckedRow : {F : Type 0} → CommRing F → (F → F → Bool) → Instance F → ℕ → List ConstraintFailure → List ConstraintFailure → ℕ → Type 0
CheckedRow r eq g row fs gs count = CheckedRowBy (zero_at r eq (instance_trace g)) g.air.constraints row fs gs count

-- The rows that a cap shows; if there is one, the trace has the entries.
abbrev pub RowsRan : {F : Type 0} → CommRing F → (F → F → Bool) → Instance F → Option ℕ → ℕ → Type 0
RowsRan r eq g cap shown = RowsRanBy (zero_at r eq (instance_trace g)) (TraceMissing g) g cap shown

-- The failures are the nonzero pairs of the rows that the cap shows.
abbrev pub CheckedRows : {F : Type 0} → CommRing F → (F → F → Bool) → Instance F → Option ℕ → List ConstraintFailure → ℕ → Type 0
CheckedRows r eq g cap fs count = CheckedRowsBy (zero_at r eq (instance_trace g)) (TraceMissing g) g cap fs count

-- The report of a check under a cap: the nonzero pairs of the rows that the cap shows, and then the violated boundary
-- values, as many as the cap leaves. The shapes and the boundary values fit.
abbrev pub IsReport : {F : Type 0} → CommRing F → (F → F → Bool) → Instance F → Option ℕ → ConstraintReport → Type 0
IsReport r eq g cap report = IsReportBy r eq (zero_at r eq (instance_trace g)) (TraceMissing g) g cap report

-- the errors of a row: `Memory`, a missing entry that a term names, or a count past `usize`
abbrev pub RowRefuses : {F : Type 0} → Instance F → AirError → Type 0
RowRefuses g e = RowRefusesBy (TraceMissing g) g e

-- The errors of the rows: those of a row, if one runs, and always `Memory`.
abbrev pub RowsRefuse : {F : Type 0} → Option ℕ → Instance F → AirError → Type 0
RowsRefuse cap g e = RowsRefuseBy (TraceMissing g) cap g e

-- the rows ran, the boundary values fit, and a listed one's constraint index exceeds `usize`
abbrev pub IsCellPastCount : {F : Type 0} → CommRing F → (F → F → Bool) → Instance F → Option ℕ → Type 0
IsCellPastCount r eq g cap = IsCellPastCountBy r eq (zero_at r eq (instance_trace g)) (TraceMissing g) g cap

-- The errors of a check of a whole trace, in order: the first shape that doesn't fit; the errors of the rows; the first
-- boundary value that doesn't fit; a listed one whose constraint index exceeds `usize`. `Memory` occurs only after the
-- shapes.
abbrev pub CheckRefuses : {F : Type 0} → CommRing F → (F → F → Bool) → Instance F → Option ℕ → AirError → Type 0
CheckRefuses r eq g cap e = CheckRefusesBy r eq (zero_at r eq (instance_trace g)) (TraceMissing g) g cap e

-- each boundary value fits and holds
pub record CellsHold {F : Type 0} (r : CommRing F) (eq : F → F → Bool) (g : Instance F) : Type 0 where
  pub fit : CellsFit g.main g.public g.air.cells
  pub hold : HoldBelow r eq g.main g.public g.air.cells (length g.air.cells)

-- The trace satisfies the constraints: no boundary value is violated, and no pair of row and constraint index is nonzero.
pub record IsSatisfied {F : Type 0} (r : CommRing F) (eq : F → F → Bool) (g : Instance F) : Type 0 where
  pub shapes : Fits g
  pub cells : CellsHold r eq g
  pub none : report_of r eq (instance_trace g) g.air.constraints (row_count g) ≡ []
  pub there : 0 < row_count g → HasEntries g

-- The first violated boundary value, and its row.
pub record IsFirstViolatedAt {F : Type 0} (r : CommRing F) (eq : F → F → Bool) (g : Instance F) (row index : ℕ) : Type 0 where
  pub shapes : Fits g
  pub cells : CellsFit g.main g.public g.air.cells
  pub first : IsFirstViolated r eq g.main g.public g.air.cells index
  pub row_is : HoldsAt (λ cell. row ≡ row_of cell.end (row_count g)) g.air.cells index

-- No boundary value is violated; this is the least row with a nonzero pair, and these are all of its pairs. The trace
-- has the entries.
pub record IsFailedRow {F : Type 0} (r : CommRing F) (eq : F → F → Bool) (g : Instance F) (row : ℕ) (fs : List ConstraintFailure) : Type 0 where
  pub shapes : Fits g
  pub cells : CellsHold r eq g
  pub within : row < row_count g
  pub before : report_of r eq (instance_trace g) g.air.constraints row ≡ []
  pub places : map failure_place fs ≡ report_of r eq (instance_trace g) g.air.constraints (row + 1)
  pub some : fs ≢ []
  pub there : HasEntries g

-- The errors, in order: a shape that doesn't fit; a boundary value that doesn't fit; once all boundary values fit and
-- hold, the errors of the rows.
abbrev pub FirstCheckRefuses : {F : Type 0} → CommRing F → (F → F → Bool) → Instance F → AirError → Type 0
FirstCheckRefuses r eq g e = IsShapeFault g.air.periodic (row_count g) (table_height g.air.preprocessed) e
    ⊎ (Fits g × (IsCellFault g.main g.public g.air.cells e ⊎ (CellsHold r eq g × RowsRefuse None g e)))

-- the errors of a check up to the first fault
abbrev pub IsFirstError : {F : Type 0} → CommRing F → (F → F → Bool) → Instance F → CheckError → Type 0
IsFirstError r eq g (BoundaryMismatch row index) = IsFirstViolatedAt r eq g row index
IsFirstError r eq g (RowFailed row failures) = IsFailedRow r eq g row failures.items
IsFirstError r eq g (NotChecked e) = FirstCheckRefuses r eq g e
