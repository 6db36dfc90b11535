use Rattle.std.proofs.lemmas.Result.{err_from_is_err_and}
use Rattle.std.proofs.Common.{◌≡◌, refl, inl}
use Rattle.air_program.specs.ByField.{HasParts}
use Rattle.air_program.specs.Explained.{ExplainsInput}
use Rattle.air_program.specs.FlatAnswer.{input_of}
use Rattle.air_program.specs.Texts.{findings_status, found_in}
use Rattle.air_program.proofs.ReasonedAnswers.{input_refused}
use Rattle.air_program.proofs.explain.explain_parts.Goals as goal

pub returns-in-Err : goal.returns-in-Err
returns-in-Err g c =
    input_refused g.F.PrimeField64.residues c.args.parts c.args.bytes.now c.in-Err.error c.in-Err.ensures.refused c.refused_input.result c.refused_input.ensures

pub returns-in_err-text : goal.returns-in_err-text
returns-in_err-text g c =
    let out = c.from_residual in
    let p = err_from_is_err_and out.result out.ensures.1 in
    rw (p.1, p.2) (record { ok = tt; refused = inl refl })

pub returns : goal.returns
returns g c =
    let a = c.in-Ok.audited in
    record { ok = λ d stands h. inl (input_of a.air.pool a.air.roots a.air.labels a.air.beside a.trial, a.audit, c.in-Ok.ensures.audited d h, (c.status-status.ensures, c.in_ok-text.ensures)); refused = tt }
