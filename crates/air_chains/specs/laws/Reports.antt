-- An exact report without a cap lists nothing exactly if each constraint is zero on each row, and no boundary value is
-- violated.
use Rattle.std.specs.Prelude.{◌↔◌}
use Rattle.std.proofs.Common.{◌≡◌, ◌-◌, ℕ, zero, suc, List, [], map, take, Bool, true, Option, Some, None, refl, ◌∙◌, ap, ap₂, ◌++◌, arith}
use Rattle.air_field.specs.Ring.{CommRing}
use Rattle.air_report.specs.Cells.{cell_place, take_within_cap}
use Rattle.air_report.specs.Instances.{instance_trace}
use Rattle.air_report.specs.Report.{report_of, failure_place}
use Rattle.air_report.specs.laws.VanishingChecks.{kept_vanish, report_vanish}
use Rattle.air_report.specs.laws.VanishingReports.{none_reported, empty_map}
use Rattle.air_chains.specs.Rows.{EmptyReportsHold, SatisfiedRowsHold, HeldRowsPass}

none_left : {X : Type 0} (cap : Option ℕ) (n : ℕ) → take_within_cap {X = X} cap n [] ≡ []
none_left None n = refl
none_left {X} (Some k) n = none_taken (k - n)
  where
    none_taken : (m : ℕ) → take m (let xs : List X = [] in xs) ≡ []
    none_taken zero = refl
    none_taken (suc m) = refl

module _ {F : Type 0} (R : CommRing F) (eq : F → F → Bool) (decides : (x y : F) → (eq x y ≡ true) ↔ (x ≡ y)) where
  pub empty_reports_hold : EmptyReportsHold R eq
  empty_reports_hold g report h none i lt = report_vanish R eq decides g report i h none lt

  pub satisfied_rows_hold : SatisfiedRowsHold R eq
  satisfied_rows_hold g kept i lt = kept_vanish R eq decides g i kept lt

  pub held_rows_pass : HeldRowsPass R eq
  held_rows_pass g holds cells cap report h =
      let ts = g.air.constraints in
      let nothing : report_of R eq (instance_trace g) ts h.shown ≡ [] =
      none_reported R eq decides (instance_trace g) ts h.shown (λ i lt. holds i (omega (arith, lt, h.ran.rows.within))) in
      let own : h.of_rows ≡ [] = empty_map failure_place h.of_rows (h.places ∙ nothing) in
      let more : h.lists.more ≡ [] =
      empty_map failure_place h.lists.more (h.lists.places ∙ ap (map (cell_place _ _)) (ap (take_within_cap cap _) cells ∙ none_left cap _)) in
      h.lists.failures ∙ ap₂ (λ xs ys. xs ++ ys) own more
