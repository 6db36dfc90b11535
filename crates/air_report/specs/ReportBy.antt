-- The answers and errors of a check of a whole trace, by any test of which assertions are zero at a row, and any leaves
-- without an entry.
use Rattle.std.specs.Prelude.{◌≡◌, ◌⊎◌, ℕ, ◌<◌, List, ◌++◌, length, map, Bool, Option}
use Rattle.air_field.specs.Ring.{CommRing}
use Rattle.air_field.specs.Term.{Leaf}
use Rattle.air_builder.specs.Assertion.{Assertion}
use Rattle.air_builder.specs.Refusals.{NoneMissing}
use Rattle.air_builder.specs.Refused.{Refused}
use Rattle.air_core.specs.declared.boundary.BoundaryPublic.{BoundaryPublic}
use Rattle.air_core.specs.declared.errors.AirError.{AirError}
use Rattle.air_core.specs.declared.errors.AirError.TheVariants.{CountOverflow, Memory}
use Rattle.air_report.specs.Cells.{violated_cells, take_within_cap, ListsCells, IsListedPast, CellsFit, IsCellFault}
use Rattle.air_report.specs.Debug.{nonzero_by}
use Rattle.air_report.specs.Instances.{Instance, row_count}
use Rattle.air_report.specs.Report.{failure_place, report_by, IsReached, IsRowsShownBy, constraints_counted}
use Rattle.air_report.specs.RowRefusals.{IsFull}
use Rattle.air_report.specs.Shapes.{ShapesFit, IsShapeFault, table_height}
use Rattle.air_report.specs.declared.checks.report.ConstraintReport.{ConstraintReport}
use Rattle.air_report.specs.declared.debug.failure.ConstraintFailure.{ConstraintFailure}

-- the shapes of the instance fit
abbrev pub Fits : {F : Type 0} → Instance F → Type 0
Fits g = ShapesFit g.air.periodic (row_count g) (table_height g.air.preprocessed)

-- A failure was added for each term that isn't zero at the row, in order; `count` is the number of constraints.
pub record CheckedRowBy {F : Type 0} (zero : ℕ → Assertion F → Bool) (ts : List (Assertion F)) (row : ℕ)
    (fs gs : List ConstraintFailure) (count : ℕ) : Type 0 where
  pub more : List ConstraintFailure
  pub failures : gs ≡ fs ++ more
  pub places : map failure_place more ≡ map (λ k. (row, k)) (nonzero_by (zero row) 0 ts)
  pub constraints : count ≡ length ts

-- The rows that a cap shows; if there is one, the trace has the entries.
pub record RowsRanBy {F : Type 0} (zero : ℕ → Assertion F → Bool) (missing : Leaf → Type 0) (g : Instance F) (cap : Option ℕ) (shown : ℕ) : Type 0 where
  pub rows : IsRowsShownBy zero g.air.constraints cap (row_count g) shown
  pub there : 0 < shown → NoneMissing missing g.air.constraints

-- The failures are the nonzero pairs of the rows that the cap shows.
pub record CheckedRowsBy {F : Type 0} (zero : ℕ → Assertion F → Bool) (missing : Leaf → Type 0) (g : Instance F)
    (cap : Option ℕ) (fs : List ConstraintFailure) (count : ℕ) : Type 0 where
  pub shown : ℕ
  pub ran : RowsRanBy zero missing g cap shown
  pub places : map failure_place fs ≡ report_by zero g.air.constraints shown
  pub counted : count ≡ constraints_counted g.air.constraints shown

-- the violated boundary values that a cap lists after the first n rows
abbrev pub listed_cells_by : {F : Type 0} → CommRing F → (F → F → Bool) → (ℕ → Assertion F → Bool) → Instance F → Option ℕ → ℕ → List (ℕ × BoundaryPublic)
listed_cells_by r eq zero g cap n =
    take_within_cap cap (length (report_by zero g.air.constraints n)) (violated_cells r eq g.main g.public g.air.cells)

-- The report of a check under a cap: the nonzero pairs of the rows that the cap shows, and then the violated boundary
-- values, as many as the cap leaves. The shapes and the boundary values fit.
pub record IsReportBy {F : Type 0} (r : CommRing F) (eq : F → F → Bool) (zero : ℕ → Assertion F → Bool) (missing : Leaf → Type 0)
    (g : Instance F) (cap : Option ℕ) (report : ConstraintReport) : Type 0 where
  pub shapes : Fits g
  pub shown : ℕ
  pub ran : RowsRanBy zero missing g cap shown
  pub cells : CellsFit g.main g.public g.air.cells
  pub of_rows : List ConstraintFailure
  pub places : map failure_place of_rows ≡ report_by zero g.air.constraints shown
  pub lists : ListsCells (row_count g) (constraints_counted g.air.constraints shown)
      (listed_cells_by r eq zero g cap shown) of_rows report.failures.items
  pub rows : report.total_rows ≡ row_count g
  pub count : report.total_constraints_per_row ≡ constraints_counted g.air.constraints shown

-- the errors of a row: `Memory`, a missing entry that a term names, or a count past `usize`
abbrev pub RowRefusesBy : {F : Type 0} → (Leaf → Type 0) → Instance F → AirError → Type 0
RowRefusesBy missing g e = Refused missing (λ _. ⊥) (IsFull 0) e g.air.constraints

-- a row runs: the trace has rows, and the cap isn't reached before the first
abbrev pub RowRuns : Option ℕ → ℕ → Type 0
RowRuns cap h = (0 < h) × (IsReached cap 0 → ⊥)

-- The errors of the rows: those of a row, if one runs, and always `Memory`.
abbrev pub RowsRefuseBy : {F : Type 0} → (Leaf → Type 0) → Option ℕ → Instance F → AirError → Type 0
RowsRefuseBy missing cap g e = (e ≡ Memory) ⊎ (RowRuns cap (row_count g) × RowRefusesBy missing g e)

-- the rows ran, the boundary values fit, and a listed one's constraint index exceeds `usize`
pub record IsCellPastCountBy {F : Type 0} (r : CommRing F) (eq : F → F → Bool) (zero : ℕ → Assertion F → Bool) (missing : Leaf → Type 0)
    (g : Instance F) (cap : Option ℕ) : Type 0 where
  pub shown : ℕ
  pub ran : RowsRanBy zero missing g cap shown
  pub cells : CellsFit g.main g.public g.air.cells
  pub past : IsListedPast (constraints_counted g.air.constraints shown) (listed_cells_by r eq zero g cap shown)

-- the rows ran, and then the boundary values had this fault
abbrev pub RefusesCellsBy : {F : Type 0} → (ℕ → Assertion F → Bool) → (Leaf → Type 0) → Instance F → Option ℕ → AirError → Type 0
RefusesCellsBy zero missing g cap e = (shown : ℕ) × RowsRanBy zero missing g cap shown × IsCellFault g.main g.public g.air.cells e

-- The errors of a check once the shapes fit, in order: those of the rows; the first boundary value that doesn't fit; a
-- listed one whose constraint index exceeds `usize`.
abbrev pub RefusesAfterShapesBy : {F : Type 0} → CommRing F → (F → F → Bool) → (ℕ → Assertion F → Bool) → (Leaf → Type 0) → Instance F → Option ℕ
    → AirError → Type 0
RefusesAfterShapesBy r eq zero missing g cap e = RowsRefuseBy missing cap g e
    ⊎ (RefusesCellsBy zero missing g cap e ⊎ ((e ≡ CountOverflow) × IsCellPastCountBy r eq zero missing g cap))

-- The errors of a check of a whole trace: the first shape that doesn't fit, and then those after the shapes. `Memory`
-- occurs only after the shapes.
abbrev pub CheckRefusesBy : {F : Type 0} → CommRing F → (F → F → Bool) → (ℕ → Assertion F → Bool) → (Leaf → Type 0) → Instance F → Option ℕ → AirError → Type 0
CheckRefusesBy r eq zero missing g cap e = IsShapeFault g.air.periodic (row_count g) (table_height g.air.preprocessed) e
    ⊎ (Fits g × RefusesAfterShapesBy r eq zero missing g cap e)
