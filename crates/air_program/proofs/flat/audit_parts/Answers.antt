use Rattle.std.proofs.lemmas.Result.{err_from_is_err_and}
use Rattle.std.proofs.Common.{List, ℕ, ◌⊎◌, inl, inr}
use Rattle.air_program.specs.ByField.{StandsFor, HasParts}
use Rattle.air_program.specs.FlatAnswer.{input_of}
use Rattle.air_program.proofs.FlatAnswers.{parts_refused}
use Rattle.air_program.proofs.NamedAnswers.{gives}
use Rattle.air_program.proofs.flat.audit_parts.Goals as goal

pub returns-in_err-audited : goal.returns-in_err-audited
returns-in_err-audited g c =
    let p = err_from_is_err_and c.from_residual.result c.from_residual.ensures.1 in
    let m = g.F.PrimeField64.residues in
    let no = c.in_err-audited in
    rw (p.1, p.2) (λ bytes. record { ok = tt; refused = parts_refused m (StandsFor bytes) (HasParts m c.args.parts) no.field-0.0 no.ensures.refused })

pub returns : goal.returns
returns g c = λ bytes.
    let a = c.in_ok-audited.audited in
    gives _ c.render.result (λ answer t. λ d stands h. inl (input_of a.air.pool a.air.roots a.air.labels a.air.beside a.trial, a.audit, c.in_ok-audited.ensures.audited d h, t)) c.render.ensures.tells c.render.ensures.refused
