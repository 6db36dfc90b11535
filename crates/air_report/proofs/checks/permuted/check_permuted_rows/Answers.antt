use Rattle.std.proofs.Common.{rules, arith, ◌≡◌, ◌<◌, inl, inr, length, map, ap, sym, subst, ◌∙◌}
use Rattle.std.proofs.lemmas.List.{length-map}
use borrow.Author.Count.{below_more, below_none}
use Rattle.std.proofs.lemmas.Result.{err_from_is_err_and}
use Rattle.air_report.specs.Permuted.{permutation_trace, permuted_zero, PermutedMissing}
use Rattle.air_report.specs.ReportBy.{RowsRefuseBy}
use Rattle.air_report.specs.Instances.{instance, row_count}
use Rattle.air_report.specs.Report.{failure_place, report_by, IsReached}
use Rattle.air_report.proofs.GivenUp.{error_is}
use Rattle.air_report.proofs.Reports.{checked_more, count_shown-more, reached_later}
use Rattle.air_report.proofs.checks.permuted.check_permuted_rows.Goals as goal

pub rows-init : goal.rows-init
rows-init g c =
    let all = instance (g.A.BaseAir.declaration c.args.air.now) c.args.main.now c.args.public_values.now in
    let p = permutation_trace c.args.permutation in
    let zero_at = permuted_zero g.F.Field.ring g.EF.ExtensionField.over g.F.PartialEq.eq g.EF.PartialEq.eq all p in
    record {
      places = ap (map failure_place) c.at_no_row-builder.ensures.failures;
      count = c.at_no_row-builder.ensures.counter;
      least = below_none (λ k. IsReached c.args.max_failures (length (report_by zero_at all.air.constraints k)) → ⊥);
      there = λ h. absurd (omega (arith, h));
    }

pub returns-then-is_reached-clause-checked : goal.returns-then-is_reached-clause-checked
returns-then-is_reached-clause-checked g c =
    let cap = c.args.max_failures in
    let inv = c.rows.invariant in
    let full : IsReached cap (length c.rows.builder.failures.items) = search rules in
    record {
      shown = c.rows.row;
      ran = record {
        rows = record {
          within = omega arith;
          enough = inr (subst (λ n. IsReached cap n) (sym (length-map c.rows.builder.failures.items failure_place) ∙ ap length inv.places) full);
          least = inv.least;
        };
        there = inv.there;
      };
      places = ap (λ v. map failure_place v.items) c.outcome_of.ensures.failures ∙ inv.places;
      counted = c.outcome_of.ensures.constraints ∙ inv.count;
    }

pub returns-in_err-check_permuted_row-clause-checked : goal.returns-in_err-check_permuted_row-clause-checked
returns-in_err-check_permuted_row-clause-checked g c =
    let p = err_from_is_err_and c.from_residual.result c.from_residual.ensures.1 in
    rw p.1 tt

pub returns-in_err-check_permuted_row-clause-refused : goal.returns-in_err-check_permuted_row-clause-refused
returns-in_err-check_permuted_row-clause-refused g c =
    let all = instance (g.A.BaseAir.declaration c.args.air.now) c.args.main.now c.args.public_values.now in
    let p = permutation_trace c.args.permutation in
    let cap = c.args.max_failures in
    let open_cap : IsReached cap (length c.rows.builder.failures.items) → ⊥ = search rules in
    let some : 0 < row_count all = omega arith in
    error_is c.from_residual.result c.from_residual.ensures.1 (RowsRefuseBy (PermutedMissing all p) cap all)
    (inr ((some, λ h. open_cap (reached_later cap (length c.rows.builder.failures.items) h)), c.in_err-check_permuted_row.ensures.refused))

pub returns-clause-checked : goal.returns-clause-checked
returns-clause-checked g c =
    let all = instance (g.A.BaseAir.declaration c.args.air.now) c.args.main.now c.args.public_values.now in
    let inv = c.rows.invariant in
    let done : c.rows.row ≡ row_count all = omega arith in
    record {
      shown = c.rows.row;
      ran = record {
        rows = record { within = omega (arith, done); enough = inl done; least = inv.least };
        there = inv.there;
      };
      places = ap (λ v. map failure_place v.items) c.outcome_of-2.ensures.failures ∙ inv.places;
      counted = c.outcome_of-2.ensures.constraints ∙ inv.count;
    }

pub rows-preserved : goal.rows-preserved
rows-preserved g c =
    let all = instance (g.A.BaseAir.declaration c.args.air.now) c.args.main.now c.args.public_values.now in
    let p = permutation_trace c.args.permutation in
    let zero_at = permuted_zero g.F.Field.ring g.EF.ExtensionField.over g.F.PartialEq.eq g.EF.PartialEq.eq all p in
    let ts = all.air.constraints in
    let row = c.rows.row in
    let cap = c.args.max_failures in
    let inv = c.rows.invariant in
    let checked = c.in_ok-check_permuted_row.ensures.checked in
    let open_cap : IsReached cap (length c.rows.builder.failures.items) → ⊥ = search rules in
    let len : length c.rows.builder.failures.items ≡ length (report_by zero_at ts row) =
    sym (length-map c.rows.builder.failures.items failure_place) ∙ ap length inv.places in
    let here : IsReached cap (length (report_by zero_at ts row)) → ⊥ = λ h. open_cap (subst (λ n. IsReached cap n) (sym len) h) in
    record {
      places = checked_more zero_at ts row _ _ _ checked inv.places;
      count = checked.constraints ∙ count_shown-more ts row;
      least = below_more (λ k. IsReached cap (length (report_by zero_at ts k)) → ⊥) row inv.least here;
      there = λ h. c.in_ok-check_permuted_row.ensures.there;
    }
