-- What an AIR says of the labels of rows' failures.
use Rattle.std.specs.Prelude.{◌≡◌, ℕ, zero, suc, List, [], length, take, Bool, Option, ⊤}
use Rattle.air_field.specs.Ring.{CommRing}
use Rattle.air_report.specs.Checks.{CheckedRows, RowsRan}
use Rattle.air_report.specs.Instances.{Instance, instance_trace}
use Rattle.air_report.specs.Report.{report_of}
use Rattle.air_report.specs.DebugLabels.{KeepsText}
use Rattle.air_report.specs.declared.checks.check_first.CheckError.{CheckError}
use Rattle.air_report.specs.declared.checks.check_first.CheckError.TheVariants.{RowFailed}
use Rattle.air_report.specs.declared.checks.report.ConstraintReport.{ConstraintReport}
use Rattle.air_report.specs.declared.debug.builder.DebugConstraintBuilder.{DebugConstraintBuilder}
use Rattle.air_report.specs.declared.debug.failure.ConstraintFailure.{ConstraintFailure}

-- A row added failures: the AIR says this of the debug builder at that row, before and after it.
pub record LabelledRow {F E : Type 0} (says : DebugConstraintBuilder F E → DebugConstraintBuilder F E → Type 0)
    (row : ℕ) (fs gs : List ConstraintFailure) : Type 0 where
  pub before : DebugConstraintBuilder F E
  pub after : DebugConstraintBuilder F E
  pub at : before.row.index ≡ row
  pub start : before.constraint_index ≡ 0
  pub had : before.failures.items ≡ fs
  pub has : after.failures.items ≡ gs
  pub said : says before after

-- these are the failures of the first n rows, of each of which the AIR says this
abbrev pub LabelledRows : {F E : Type 0} → (DebugConstraintBuilder F E → DebugConstraintBuilder F E → Type 0)
    → ℕ → List ConstraintFailure → Type 0
LabelledRows says zero fs = fs ≡ []
LabelledRows says (suc n) fs = (before : List ConstraintFailure) × LabelledRows says n before × LabelledRow says n before fs

-- of the rows that a check ran
pub record LabelsChecked {F : Type 0} (r : CommRing F) (eq : F → F → Bool) (g : Instance F) (cap : Option ℕ)
    (says : DebugConstraintBuilder F F → DebugConstraintBuilder F F → Type 0) (fs : List ConstraintFailure)
    (count : ℕ) : Type 0 where
  pub checked : CheckedRows r eq g cap fs count
  pub labelled : LabelledRows says checked.shown fs

-- of the rows that a report shows under a cap, whose failures are the first that it lists
pub record LabelsRows {F : Type 0} (r : CommRing F) (eq : F → F → Bool) (g : Instance F) (cap : Option ℕ)
    (says : DebugConstraintBuilder F F → DebugConstraintBuilder F F → Type 0) (report : ConstraintReport) : Type 0 where
  pub shown : ℕ
  pub ran : RowsRan r eq g cap shown
  pub labelled : LabelledRows says shown
      (take (length (report_of r eq (instance_trace g) g.air.constraints shown)) report.failures.items)

-- of the row that an error names as failed
abbrev pub LabelsFailedRow : {F E : Type 0} → (DebugConstraintBuilder F E → DebugConstraintBuilder F E → Type 0)
    → CheckError → Type 0
LabelsFailedRow says (RowFailed row failures) = LabelledRow says row [] failures.items
LabelsFailedRow says _ = ⊤

-- the failure keeps a text that the name at its constraint's place may display
pub record KeepsName (says : ℕ → Option (List ℕ) → Type 0) (f : ConstraintFailure) : Type 0 where
  pub text : Option (List ℕ)
  pub said : says f.constraint text
  pub kept : KeepsText text f.label
