-- What the AIR says of the labels of one more row, and of a report.
use Rattle.std.proofs.Common.{◌≡◌, ℕ, suc, ◌+◌, List, ◌++◌, length, take, Bool, Option, sym, ◌∙◌, ap, subst, arith}
use Rattle.std.proofs.lemmas.List.{length-map}
use Rattle.std.proofs.Math.Seq.{take-append_seam}
use Rattle.air_field.specs.Ring.{CommRing}
use Rattle.air_report.specs.Instances.{Instance, instance_trace}
use Rattle.air_report.specs.Report.{failure_place, report_of}
use Rattle.air_report.specs.RowLabels.{LabelledRow, LabelledRows, LabelsChecked, LabelsRows}
use Rattle.air_report.specs.declared.checks.report.ConstraintReport.{ConstraintReport}
use Rattle.air_report.specs.declared.debug.builder.DebugConstraintBuilder.{DebugConstraintBuilder}
use Rattle.air_report.specs.declared.debug.failure.ConstraintFailure.{ConstraintFailure}

pub rows_more : {F E : Type 0} (says : DebugConstraintBuilder F E → DebugConstraintBuilder F E → Type 0) (n : ℕ) (fs gs : List ConstraintFailure)
    → LabelledRows says n fs → LabelledRow says n fs gs → LabelledRows says (n + 1) gs
rows_more says n fs gs h row =
    let next : suc n ≡ n + 1 = omega arith in
    subst (λ k. LabelledRows says k gs) next (fs, h, row)

-- the rows' failures are the first of the report
pub labels_rows : {F : Type 0} (r : CommRing F) (eq : F → F → Bool) (g : Instance F) (limit : Option ℕ)
    (says : DebugConstraintBuilder F F → DebugConstraintBuilder F F → Type 0) (fs : List ConstraintFailure) (count : ℕ) (report : ConstraintReport)
    (more : List ConstraintFailure) → LabelsChecked r eq g limit says fs count → report.failures.items ≡ fs ++ more
    → LabelsRows r eq g limit says report
labels_rows r eq g limit says fs count report more h is =
    let shown = h.checked.shown in
    let n = length (report_of r eq (instance_trace g) g.air.constraints shown) in
    let long : n ≡ length fs = ap length (sym h.checked.places) ∙ length-map fs failure_place in
    let first : take n report.failures.items ≡ fs = ap (λ k. take k report.failures.items) long ∙ (ap (take (length fs)) is ∙ take-append_seam fs more) in
    record { shown = shown; ran = h.checked.ran; labelled = subst (LabelledRows says shown) (sym first) h.labelled }
