-- If a check finds no failure, every declared term vanishes at each row.
use Rattle.std.specs.Prelude.{◌≡◌, ℕ, ◌<◌, List, [], ◌++◌, length, map, Bool, None, ◌↔◌, true}
use Rattle.std.proofs.Common.{sym, ◌∙◌, ap, ap₂, inl, inr}
use Rattle.air_field.specs.Ring.{CommRing}
use Rattle.air_field.specs.Assignment.{row_assignment}
use Rattle.air_field.specs.Grid.{Grid}
use Rattle.air_field.specs.Term.{Leaf}
use Rattle.air_builder.specs.Assertion.{Assertion}
use Rattle.air_builder.specs.Declaration.{plain_declaration}
use Rattle.air_builder.specs.Vanishing.{AllVanish}
use Rattle.air_report.specs.Cells.{violated_cells, cell_place}
use Rattle.air_report.specs.Checks.{IsSatisfied, IsReport, TraceMissing}
use Rattle.air_report.specs.Instances.{Instance, instance, instance_trace, row_count}
use Rattle.air_report.specs.Report.{failure_place, plain_trace, report_by, constraints_counted, zero_at}
use Rattle.air_report.specs.ReportBy.{IsReportBy}
use Rattle.air_report.specs.declared.checks.report.ConstraintReport.{ConstraintReport}
use Rattle.air_report.specs.laws.VanishingReports.{all_vanish, empty_map, nothing_first}

-- a report without a cap lists nothing exactly if no pair of a row and a constraint index is nonzero, and no boundary value
-- is violated
module _ {F : Type 0} (R : CommRing F) (eq : F → F → Bool) (zero : ℕ → Assertion F → Bool) (missing : Leaf → Type 0) (g : Instance F)
    (report : ConstraintReport) (h : IsReportBy R eq zero missing g None report) where
  all_shown : h.shown ≡ row_count g
  all_shown = elim h.ran.rows.enough [ inl e ↦ e | inr k ↦ absurd k ]

  pub nothing_listed : report.failures.items ≡ [] → report_by zero g.air.constraints (row_count g) ≡ []
  nothing_listed none =
      ap (report_by zero g.air.constraints) (sym all_shown)
      ∙ sym h.places ∙ ap (map failure_place) (nothing_first h.of_rows h.lists.more (sym h.lists.failures ∙ none)).0

  pub none_violated : report.failures.items ≡ [] → violated_cells R eq g.main g.public g.air.cells ≡ []
  none_violated none =
      empty_map (cell_place (row_count g) (constraints_counted g.air.constraints h.shown)) _
      (sym h.lists.places ∙ ap (map failure_place) (nothing_first h.of_rows h.lists.more (sym h.lists.failures ∙ none)).1)

  pub lists_none : report_by zero g.air.constraints (row_count g) ≡ [] → violated_cells R eq g.main g.public g.air.cells ≡ [] → report.failures.items ≡ []
  lists_none nonzero violated =
      let rows : h.of_rows ≡ [] = empty_map failure_place h.of_rows (h.places ∙ (ap (report_by zero g.air.constraints) all_shown ∙ nonzero)) in
      let cells : h.lists.more ≡ [] =
      empty_map failure_place h.lists.more (h.lists.places ∙ ap (map (cell_place (row_count g) (constraints_counted g.air.constraints h.shown))) violated) in
      h.lists.failures ∙ ap₂ (λ xs ys. xs ++ ys) rows cells

module _ {F : Type 0} (R : CommRing F) (eq : F → F → Bool) (decides : (x y : F) → (eq x y ≡ true) ↔ (x ≡ y)) where
  -- if `check_constraints` is Ok, every declared term vanishes at each row
  pub kept_vanish : (g : Instance F) (row : ℕ) → IsSatisfied R eq g → row < row_count g → AllVanish R (row_assignment R (instance_trace g) row) g.air.constraints
  kept_vanish g row kept lt = all_vanish R eq decides (instance_trace g) g.air.constraints (row_count g) kept.none row lt

  -- as `kept_vanish`, for an AIR with only a main trace and public values
  pub plain_vanish : (ts : List (Assertion F)) (width values : ℕ) (main : Grid F) (public : List F) (row : ℕ)
      → IsSatisfied R eq (instance (plain_declaration ts width values) main public) → row < length main.rows
      → AllVanish R (row_assignment R (plain_trace main public) row) ts
  plain_vanish ts width values main public row kept lt = kept_vanish (instance (plain_declaration ts width values) main public) row kept lt

  -- if `check_all_constraints` without a cap lists nothing, every declared term vanishes at each row
  pub report_vanish : (g : Instance F) (report : ConstraintReport) (row : ℕ) → IsReport R eq g None report → report.failures.items ≡ [] → row < row_count g
      → AllVanish R (row_assignment R (instance_trace g) row) g.air.constraints
  report_vanish g report row h none lt =
      all_vanish R eq decides (instance_trace g) g.air.constraints (row_count g)
      (nothing_listed R eq (zero_at R eq (instance_trace g)) (TraceMissing g) g report h none) row lt
