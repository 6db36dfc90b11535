-- A report grows by the nonzero pairs of a row, and then by the violated boundary values.
use Rattle.std.proofs.Common.{◌≡◌, ℕ, ◌+◌, List, ◌++◌, map, length, Bool, Option, None, Some, refl, sym, ◌∙◌, ap, subst, arith, add-one}
use Rattle.std.proofs.lemmas.List.{length-map, map-append}
use Rattle.std.proofs.Math.Dec.{eqb-suc-zero}
use Rattle.air_field.specs.Ring.{CommRing}
use Rattle.air_builder.specs.Assertion.{Assertion}
use Rattle.air_report.specs.laws.Report.{report_by-more}
use Rattle.air_core.specs.declared.boundary.BoundaryPublic.{BoundaryPublic}
use Rattle.air_report.specs.Cells.{violated_cells, take_within_cap, ListsCells}
use Rattle.air_report.specs.Instances.{Instance, row_count}
use Rattle.air_report.specs.Report.{failure_place, report_by, constraints_counted, IsReached}
use Rattle.air_report.specs.ReportBy.{CheckedRowBy, listed_cells_by}
use Rattle.air_report.specs.declared.debug.failure.ConstraintFailure.{ConstraintFailure}

module _ {F : Type 0} (zero_at : ℕ → Assertion F → Bool) where
  -- a checked row adds its nonzero pairs
  pub checked_more : (ts : List (Assertion F)) (row : ℕ) (fs gs : List ConstraintFailure) (count : ℕ) → CheckedRowBy zero_at ts row fs gs count
      → map failure_place fs ≡ report_by zero_at ts row
      → map failure_place gs ≡ report_by zero_at ts (row + 1)
  checked_more ts row fs gs count checked places =
      ap (map failure_place) checked.failures
      ∙ (map-append failure_place fs checked.more
      ∙ (ap (λ l. l ++ map failure_place checked.more) places
      ∙ (ap (λ l. report_by zero_at ts row ++ l) checked.places
      ∙ sym (report_by-more zero_at ts row))))

-- if a row ran, the count is the length of the list
pub count_shown-more : {F : Type 0} (ts : List (Assertion F)) (n : ℕ) → length ts ≡ constraints_counted ts (n + 1)
count_shown-more ts n = rw (add-one, eqb-suc-zero n) refl

-- a cap that is reached at 0 failures is always reached
pub reached_later : (cap : Option ℕ) (n : ℕ) → IsReached cap 0 → IsReached cap n
reached_later None n h = h
reached_later (Some cap) n h = omega (arith, h)

-- the boundary values that are listed after the failures of the rows
pub listed_after : {F : Type 0} (r : CommRing F) (eq : F → F → Bool) (zero_at : ℕ → Assertion F → Bool) (g : Instance F) (cap : Option ℕ) (shown : ℕ)
    (fs gs : List ConstraintFailure) (count : ℕ) (cells : List BoundaryPublic) → map failure_place fs ≡ report_by zero_at g.air.constraints shown
    → count ≡ constraints_counted g.air.constraints shown → cells ≡ g.air.cells
    → ListsCells (row_count g) count (take_within_cap cap (length fs) (violated_cells r eq g.main g.public cells)) fs gs
    → ListsCells (row_count g) (constraints_counted g.air.constraints shown) (listed_cells_by r eq zero_at g cap shown) fs gs
listed_after r eq zero_at g cap shown fs gs count cells places counted same l =
    let len : length fs ≡ length (report_by zero_at g.air.constraints shown) = sym (length-map fs failure_place) ∙ ap length places in
    subst (λ n. ListsCells (row_count g) n (listed_cells_by r eq zero_at g cap shown) fs gs) counted
    (subst (λ n. ListsCells (row_count g) count (take_within_cap cap n (violated_cells r eq g.main g.public g.air.cells)) fs gs) len
    (subst (λ cs. ListsCells (row_count g) count (take_within_cap cap (length fs) (violated_cells r eq g.main g.public cs)) fs gs) same l))
