-- Checks that list no failure.
use Rattle.std.proofs.Common.{◌≡◌, ◌-◌, ◌<◌, ◌++◌, ℕ, zero, suc, List, [], ◌∷◌, map, take, get_or, slice_get, Bool, Option, Some, None, refl, sym, ◌∙◌, ap, ap₂, subst, arith}
use Rattle.std.specs.Bool.{Decides}
use Rattle.air_field.specs.Ring.{CommRing}
use Rattle.air_field.specs.Assignment.{leaf_value, row_assignment, row_at, row_or_none}
use Rattle.air_field.specs.Grid.{Grid}
use Rattle.air_builder.specs.Vanishing.{AllVanish}
use Rattle.air_field.specs.Domain.{IsDomain}
use Rattle.air_report.specs.Instances.{instance_trace, row_count}
use Rattle.air_report.specs.Report.{report_of, failure_place}
use Rattle.air_report.specs.Cells.{cell_place, take_within_cap}
use Rattle.air_report.specs.Checks.{IsReport}
use Rattle.air_report.specs.declared.checks.report.ConstraintReport.{ConstraintReport}
use Rattle.air_report.specs.laws.VanishingChecks.{report_vanish}
use Rattle.air_report.specs.laws.VanishingReports.{none_reported, empty_map}
use Rattle.air_blake3.specs.Holding.{CompressionIsSound}
use Rattle.air_blake3.specs.Row.{compression}
use Rattle.air_blake3.specs.Checks.{compression_instance, HoldCompressions, ReportsListNothing}
use Rattle.air_blake3.specs.Traces.{AreCompressionRows}

none_left : {X : Type 0} (cap : Option ℕ) (n : ℕ) → take_within_cap {X = X} cap n [] ≡ []
none_left None n = refl
none_left {X} (Some k) n = none_taken (k - n)
  where
    none_taken : (m : ℕ) → take m (let xs : List X = [] in xs) ≡ []
    none_taken zero = refl
    none_taken (suc m) = refl

row_there : {F : Type 0} (rows : List (List F)) (row : ℕ) → row_or_none (slice_get rows row) ≡ get_or rows row []
row_there [] row = refl
row_there (x ∷ rows) zero = refl
row_there (x ∷ rows) (suc row) = row_there rows row

module _ {F : Type 0} (r : CommRing F) (eq : F → F → Bool) (decides : (a b : F) → Decides (eq a b) (a ≡ b)) where
  -- If a report on a trace of compressions lists no failure, each row holds a compression.
  pub compressions_hold : (p : ℕ) → IsDomain r → CompressionIsSound r p → (main : Grid F) (report : ConstraintReport)
      → IsReport r eq (compression_instance r main) None report → report.failures.items ≡ [] → HoldCompressions r p main
  compressions_hold p domain sound main report h none big row l =
      let g = compression_instance r main in
      sound (row_assignment r (instance_trace g) row) domain big (report_vanish r eq decides g report row h none l)

  -- A report on a trace whose rows satisfy all constraints lists no failure.
  pub compression_rows_pass : (main : Grid F) → AreCompressionRows r r.zero main → ReportsListNothing r eq main
  compression_rows_pass main rows cap report h =
      let g = compression_instance r main in
      let t = instance_trace g in
      let vanish : (row : ℕ) → row < row_count g → AllVanish r (row_assignment r t row) (compression r) =
      λ row l. subst (λ x. AllVanish r (leaf_value r.zero (record (row_at r t row) { current = x })) (compression r)) (sym (row_there main.rows row)) (rows row [] l (row_at r t row)) in
      let empty : report_of r eq t (compression r) h.shown ≡ [] =
      none_reported r eq decides t (compression r) h.shown (λ row l. vanish row (omega (arith, h.ran.rows.within))) in
      let own : h.of_rows ≡ [] = empty_map failure_place h.of_rows (h.places ∙ empty) in
      let more : h.lists.more ≡ [] =
      empty_map failure_place h.lists.more (h.lists.places ∙ ap (map (cell_place (row_count g) _)) (none_left cap _)) in
      h.lists.failures ∙ ap₂ (λ xs ys. xs ++ ys) own more
