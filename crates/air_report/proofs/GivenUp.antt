-- The errors of a check that stops, in terms of its arguments.
use Rattle.std.specs.Global.{Global}
use Rattle.std.specs.Result.{IsErrAnd}
use Rattle.std.proofs.Common.{◌≡◌, ℕ, ◌⊎◌, inl, inr, List, map, length, Bool, Option, Result, Vec, IfErr, sym, ap, ◌∙◌, subst}
use Rattle.std.proofs.lemmas.List.{length-map}
use Rattle.std.proofs.lemmas.Result.{err_from_is_err_and}
use Rattle.air_field.specs.Ring.{CommRing}
use Rattle.air_field.specs.Term.{Leaf}
use Rattle.air_builder.specs.Assertion.{Assertion}
use Rattle.air_core.specs.declared.boundary.BoundaryPublic.{BoundaryPublic}
use Rattle.air_core.specs.declared.errors.AirError.{AirError}
use Rattle.air_core.specs.declared.errors.AirError.TheVariants.{CountOverflow, Memory}
use Rattle.air_report.specs.Cells.{violated_cells, take_within_cap, IsListedPast, CellsFit}
use Rattle.air_report.specs.ReportBy.{Fits, RowsRanBy, RefusesAfterShapesBy}
use Rattle.air_report.specs.Instances.{Instance, row_count}
use Rattle.air_report.specs.Report.{failure_place, report_by, constraints_counted}
use Rattle.air_report.specs.Shapes.{ShapesFit, IsShapeFault, table_height}
use Rattle.air_report.specs.declared.debug.failure.ConstraintFailure.{ConstraintFailure}

-- a `?` returned this error
pub error_is : {X E : Type 0} (result : Result X E) {e : E} → IsErrAnd result (λ x. x ≡ e) → (Q : E → Type 0) → Q e → IfErr result Q
error_is result p Q h =
    let q = err_from_is_err_and result p in
    rw (q.1, q.2) h

-- the checked shapes are those of the instance
module _ {F : Type 0} (g : Instance F) {columns : List (Vec F Global)} {h : ℕ} {t : Option ℕ}
    (same : columns ≡ g.air.periodic) (high : h ≡ row_count g) (table : t ≡ table_height g.air.preprocessed) where
  pub instance_fits : ShapesFit columns h t → Fits g
  instance_fits fits =
      subst (λ cs. ShapesFit cs (row_count g) (table_height g.air.preprocessed)) same
      (subst (λ n. ShapesFit columns n (table_height g.air.preprocessed)) high
      (subst (λ o. ShapesFit columns h o) table fits))

  pub instance_fault : (e : AirError) → IsShapeFault columns h t e
      → IsShapeFault g.air.periodic (row_count g) (table_height g.air.preprocessed) e
  instance_fault e fault =
      subst (λ cs. IsShapeFault cs (row_count g) (table_height g.air.preprocessed) e) same
      (subst (λ n. IsShapeFault columns n (table_height g.air.preprocessed) e) high
      (subst (λ o. IsShapeFault columns h o e) table fault))

-- the errors of listing the boundary values
pub cells_refused : {F : Type 0} (r : CommRing F) (eq : F → F → Bool) (zero_at : ℕ → Assertion F → Bool) (missing : Leaf → Type 0)
    (g : Instance F) (cap : Option ℕ) (shown : ℕ) (fs : List ConstraintFailure) (count : ℕ) (cells : List BoundaryPublic) (e : AirError)
    → RowsRanBy zero_at missing g cap shown → CellsFit g.main g.public g.air.cells
    → map failure_place fs ≡ report_by zero_at g.air.constraints shown
    → count ≡ constraints_counted g.air.constraints shown → cells ≡ g.air.cells
    → (e ≡ Memory) ⊎ ((e ≡ CountOverflow) × IsListedPast count (take_within_cap cap (length fs) (violated_cells r eq g.main g.public cells)))
    → RefusesAfterShapesBy r eq zero_at missing g cap e
cells_refused r eq zero_at missing g cap shown fs count cells e ran fit places counted same (inl m) = inl (inl m)
cells_refused r eq zero_at missing g cap shown fs count cells e ran fit places counted same (inr o) =
    let len : length fs ≡ length (report_by zero_at g.air.constraints shown) = sym (length-map fs failure_place) ∙ ap length places in
    let violated = violated_cells r eq g.main g.public in
    inr (inr (
      o.0,
      record {
        shown = shown;
        ran = ran;
        cells = fit;
        past = subst (λ n. IsListedPast n (take_within_cap cap (length (report_by zero_at g.air.constraints shown)) (violated g.air.cells))) counted
            (subst (λ n. IsListedPast count (take_within_cap cap n (violated g.air.cells))) len
            (subst (λ cs. IsListedPast count (take_within_cap cap (length fs) (violated cs))) same o.1));
      },
    ))
