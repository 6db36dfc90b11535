-- What an audit under no cap answers and refuses, as `audit_air` says it.
use Rattle.std.proofs.Common.{Result, Ok, Err, IfOk, IfErr, OnOk, ◌≡◌, ℕ, ◌+◌, ◌<◌, ◌≤◌, ◌^◌, List, [], ◌∷◌, ◌++◌, map, length, take, drop, slice_get, Bool, Some, None, refl, sym, ap, ap₂, ◌∙◌, subst, inl, inr}
use Rattle.std.proofs.lemmas.List.{map-append, length-map}
use Rattle.air_field.specs.Ring.{CommRing}
use Rattle.air_field.specs.Assignment.{IsMissing}
use Rattle.air_builder.specs.Refusals.{NoneMissing}
use Rattle.air_core.specs.declared.errors.AirError.{AirError}
use Rattle.air_core.specs.declared.errors.AirError.TheVariants.{Memory}
use Rattle.air_report.specs.Cells.{cell_label, cell_place, label_text}
use Rattle.air_report.specs.Checks.{Fits, HasEntries, IsCellPastCount, IsReport, RowsRan, RowRefuses}
use Rattle.air_report.specs.Instances.{instance_trace}
use Rattle.air_report.specs.Report.{constraints_counted, failure_place, report_of}
use Rattle.air_report.specs.RowLabels.{LabelledRows, LabelsRows}
use Rattle.air_report.specs.declared.checks.report.ConstraintReport.{ConstraintReport}
use Rattle.air_report.specs.declared.debug.builder.DebugConstraintBuilder.{DebugConstraintBuilder}
use Rattle.air_audit.specs.Theorem.{Instance, row_count, RowsHaveEntries, FixedColumnsFit, FitsDeclaration, constraints_per_row, failure_places, nonzero_places, violated_cells, violated_places, LabelsFrom, RecordingRefuses, IsRecordable, ReportRefuses, AuditRefuses}
use Rattle.air_audit.specs.Audits.{AuditRefusesUnder}
use Rattle.air_audit.specs.laws.Theorem.{cells_refuse, fixed_columns_fit, fixed_columns_refuse, labels_are, nonzero_places_are, proper_below, rows_refuse, shape_is, violated_cells_are}

-- a fact for the answer, from another
pub if_ok-map : {A E : Type 0} {P Q : A → Type 0} (r : Result A E) → IfOk r P → ((a : A) → P a → Q a) → IfOk r Q
if_ok-map (Ok a) h f = f a h
if_ok-map (Err e) h f = tt

pub on_ok-map : {A E : Type 0} {P : A → Type 0} {Q : Type 0} (r : Result A E) → IfOk r P → ((a : A) → P a → Q) → OnOk r Q
on_ok-map (Ok a) h f = f a h
on_ok-map (Err e) h f = tt

pub if_err-map : {A E : Type 0} {P Q : E → Type 0} (r : Result A E) → IfErr r P → ((e : E) → P e → Q e) → IfErr r Q
if_err-map (Ok a) h f = tt
if_err-map (Err e) h f = f e h

dropped : {X : Type 0} (xs ys : List X) (n : ℕ) → n ≡ length xs → drop n (xs ++ ys) ≡ ys
dropped xs ys n h = ap (λ k. drop k (xs ++ ys)) h ∙ all xs
  where
    all : (zs : List _) → drop (length zs) (zs ++ ys) ≡ ys
    all [] = refl
    all (z ∷ zs) = all zs

module _ {F : Type 0} (r : CommRing F) (eq : F → F → Bool) (x : Instance F) where
  -- without a cap all rows are shown
  all_shown : {shown : ℕ} → RowsRan r eq x None shown → shown ≡ row_count x
  all_shown {shown} ran = elim ran.rows.enough [
    | inl all ↦ all
    | inr never ↦ absurd never
  ]

  -- and so they have the entries
  entries : {shown : ℕ} → RowsRan r eq x None shown → RowsHaveEntries x
  entries ran =
      subst (λ s. 0 < row_count x → NoneMissing (IsMissing s) x.air.constraints) (sym (shape_is x)) (subst (λ n. 0 < n → HasEntries x) (all_shown ran) ran.there)

  -- the rows' failures are the first, as many as there are nonzero places
  pub row_labels : (says : DebugConstraintBuilder F F → DebugConstraintBuilder F F → Type 0) (report : ConstraintReport) → LabelsRows r eq x None says report
      → LabelledRows says (row_count x) (take (length (nonzero_places r eq x)) report.failures.items)
  row_labels says report h =
      subst (λ ps. LabelledRows says (row_count x) (take (length ps) report.failures.items)) (sym (nonzero_places_are r x eq))
      (subst (λ n. LabelledRows says n (take (length (report_of r eq (instance_trace x) x.air.constraints n)) report.failures.items)) (all_shown h.ran) h.labelled)

  module _ (report : ConstraintReport) (p : IsReport r eq x None report) where
    at : p.shown ≡ row_count x
    at = all_shown p.ran

    of_rows : map failure_place p.of_rows ≡ nonzero_places r eq x
    of_rows = p.places ∙ (ap (report_of r eq (instance_trace x) x.air.constraints) at ∙ sym (nonzero_places_are r x eq))

    pub fits : FitsDeclaration x
    fits = record {
      fixed_columns = fixed_columns_fit x p.shapes;
      entries = entries p.ran;
      cells = proper_below x (length x.air.cells) p.cells.sound;
      rows_for_cells = p.cells.rows_there;
    }

    pub lists : failure_places report ≡ nonzero_places r eq x ++ violated_places r eq x
    lists = ap (map failure_place) p.lists.failures
        ∙ (map-append failure_place p.of_rows p.lists.more
        ∙ ap₂ (λ xs ys. xs ++ ys) of_rows
        (p.lists.places ∙ (ap (λ n. map (cell_place (row_count x) (constraints_counted x.air.constraints n)) _) at ∙ ap (map (cell_place (row_count x) (constraints_per_row x))) (sym (violated_cells_are r x eq)))))

    pub labels : LabelsFrom (length (nonzero_places r eq x)) (violated_cells r eq x) report
    labels = labels_are (drop (length (nonzero_places r eq x)) report.failures.items)
        ∙ (ap (λ fs. map label_text (drop (length (nonzero_places r eq x)) fs)) p.lists.failures
        ∙ (ap (map label_text) (dropped p.of_rows p.lists.more (length (nonzero_places r eq x)) counted)
        ∙ (p.lists.labels ∙ ap (map (λ c. Some (cell_label c.1))) (sym (violated_cells_are r x eq)))))
      where
        counted : length (nonzero_places r eq x) ≡ length p.of_rows
        counted = ap length (sym of_rows) ∙ length-map p.of_rows failure_place

    pub counts : (report.total_rows ≡ row_count x) × (report.total_constraints_per_row ≡ constraints_per_row x)
    counts = (p.rows, p.count ∙ ap (constraints_counted x.air.constraints) at)

  module _ (w : ℕ) where
    memory_refused : (e : AirError) → e ≡ Memory → AuditRefuses r eq x w e
    memory_refused e is = inl (subst (λ k. RecordingRefuses x.air k) (sym is) tt)

    fit : Fits x → FixedColumnsFit x
    fit = fixed_columns_fit x

    refused_by_rows : (e : AirError) → IsRecordable r x.air → Fits x → 0 < row_count x → RowRefuses x e → AuditRefuses r eq x w e
    refused_by_rows e answers shapes some rows = elim (rows_refuse x e some rows) [
      | inl memory ↦ memory_refused e memory
      | inr refused ↦ inr (answers, inr (fit shapes, inl refused))
    ]

    -- a cell that is listed past `usize`
    listed_past : (e : AirError) → ReportRefuses r eq x e → IsRecordable r x.air → Fits x → (past : IsCellPastCount r eq x None) → AuditRefuses r eq x w e
    listed_past e refused answers shapes past =
        inr (
          answers,
          inr (
            fit shapes,
            inr (
              entries past.ran,
              inr (
                record { fixed_columns = fit shapes; entries = entries past.ran; cells = proper_below x (length x.air.cells) past.cells.sound; rows_for_cells = past.cells.rows_there },
                inl refused,
              ),
            ),
          ),
        )

    pub refuses : (e : AirError) → AuditRefusesUnder r eq x None w e → AuditRefuses r eq x w e
    refuses e (inl recording) = inl recording
    refuses e (inr (answers, inl (inl shapes))) = inr (answers, inl (fixed_columns_refuse x e shapes))
    refuses e (inr (answers, inl (inr (shapes, inl (inl memory))))) = memory_refused e memory
    refuses e (inr (answers, inl (inr (shapes, inl (inr rows))))) = refused_by_rows e answers shapes rows.0.0 rows.1
    refuses e (inr (answers, inl (inr (shapes, inr (inl (shown, ran, cells)))))) = inr (answers, inr (fit shapes, inr (entries ran, inl (cells_refuse x e cells))))
    refuses e (inr (answers, inl (inr (shapes, inr (inr (is, past)))))) =
        listed_past e
        (subst (λ k. ReportRefuses r eq x k) (sym is) (
          past.past.at,
          past.past.cell,
          ap (λ l. slice_get l past.past.at) (violated_cells_are r x eq) ∙ past.past.is_listed,
          subst (λ n. 2 ^ 64 ≤ constraints_counted x.air.constraints n + past.past.cell.0) (all_shown past.ran) past.past.past,
        ))
        answers shapes past
    refuses e (inr (answers, inr (is, past))) =
        let whole = fits past.report past.checked in
        inr (answers, inr (whole.fixed_columns, inr (whole.entries, inr (whole, inr (is, past.passes)))))
