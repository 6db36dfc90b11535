-- The labels of the failures of an AIR that asserts its roots under their labels.
use Rattle.std.specs.Prelude.{ℕ, List, All, Bool, String}
use Rattle.std.specs.Global.{Global}
use Rattle.std.proofs.Common.{get_or, subst}
use Rattle.air_builder.specs.Assertion.{Assertion}
use Rattle.air_builder.specs.Labels.{LabelledBy}
use Rattle.air_report.specs.Debug.{RowData}
use Rattle.air_report.specs.DebugAsserts.{GrewLabelled}
use Rattle.air_report.specs.DebugLabels.{KeepsText}
use Rattle.air_report.specs.RowLabels.{LabelledRows}
use Rattle.air_report.specs.declared.debug.failure.ConstraintFailure.{ConstraintFailure}
use Rattle.air_report.specs.laws.RowLabels.{names_kept}
use Rattle.air_audit.specs.RootLabels.{RootSays, HasRootLabel}

-- if this is said of the rows, as `FlatAir` and `FlatExtAir` do, each failure has its root's label
pub roots_labelled : {F E : Type 0} (holds : RowData F E → Assertion F → Bool) (ts : List (Assertion F)) (labels : List (String Global)) (n : ℕ)
    (fs : List ConstraintFailure) → LabelledRows (λ a b. LabelledBy (GrewLabelled holds) (RootSays labels) a b ts) n fs → All (HasRootLabel labels) fs
roots_labelled holds ts labels n fs h k d lt =
    let named = names_kept (RootSays labels) holds ts n fs h k d lt in
    subst (λ text. KeepsText text (get_or fs k d).label) named.said named.kept
