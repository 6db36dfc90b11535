use contract.BorrowLft.{⊑_static}
use Rattle.std.proofs.Common.{None, subst}
use Rattle.std.proofs.lemmas.Result.{err_from_is_err_and}
use Rattle.air_blake3.specs.Traces.{AreCompressionRows}
use Rattle.air_blake3.proofs.Checked.{compression_rows_pass, compressions_hold}
use Rattle.air_blake3.proofs.checks.are_compressions.Goals as goal

pub returns-clause-answer : goal.returns-clause-answer
returns-clause-answer g c = record {
  report = c.in_ok-report.report;
  exact = c.in_ok-report.ensures.report;
  is_empty = c.is_ok.ensures;
}

pub returns-in_err-report-clause-refused : goal.returns-in_err-report-clause-refused
returns-in_err-report-clause-refused g c =
    let p = err_from_is_err_and c.from_residual.result c.from_residual.ensures.1 in
    rw (p.1, p.2) c.in_err-report.ensures.refused

pub returns-clause-sound : goal.returns-clause-sound
returns-clause-sound g c =
    λ yes.
    compressions_hold g.F.Field.ring g.F.PartialEq.eq g.met.F.Field.eq_is g.F.Field.CHARACTERISTIC g.met.F.PrimeField.domain
    c.compression_is_sound.ensures.compression c.args.trace.now c.in_ok-report.report c.in_ok-report.ensures.report (c.is_ok.ensures.0 yes)

pub returns-clause-complete : goal.returns-clause-complete
returns-clause-complete g c =
    λ rows.
    c.is_ok.ensures.1
    (compression_rows_pass g.F.Field.ring g.F.PartialEq.eq g.met.F.Field.eq_is c.args.trace.now
    (subst (λ z. AreCompressionRows g.F.Field.ring z c.args.trace.now) g.met.F.Field.zero_is rows)
    None c.in_ok-report.report c.in_ok-report.ensures.report)

pub check_all_constraints-requires-lives-A-Air : goal.check_all_constraints-requires-lives-A-Air
check_all_constraints-requires-lives-A-Air g c κs within = λ a m. ⊑_static _ a (c.type_bounds.static-F a m)

pub check_all_constraints-requires-lives-A-Air-2 : goal.check_all_constraints-requires-lives-A-Air-2
check_all_constraints-requires-lives-A-Air-2 g c κs within = λ a m. ⊑_static _ a (c.type_bounds.static-F a m)

pub check_all_constraints-requires-lives-A-Air-3 : goal.check_all_constraints-requires-lives-A-Air-3
check_all_constraints-requires-lives-A-Air-3 g c κs within = λ a m. ⊑_static _ a (c.type_bounds.static-F a m)

pub check_all_constraints-requires-lives-A-Air-4 : goal.check_all_constraints-requires-lives-A-Air-4
check_all_constraints-requires-lives-A-Air-4 g c κs within = λ a m. ⊑_static _ a (c.type_bounds.static-F a m)
