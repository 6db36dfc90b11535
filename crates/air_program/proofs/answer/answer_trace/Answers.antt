use Rattle.std.proofs.Common.{◌≡◌, length, string_bytes, rules}
use Rattle.std.proofs.lemmas.Result.{err_from_is_err_and}
use Rattle.air_field.specs.BabyBear.{BabyBear}
use Rattle.air_program.proofs.FibonacciRefusals.{audit_refuses}
use Rattle.air_program.proofs.NamedAnswers.{gives}
use Rattle.air_program.proofs.Traces.{answered, not_parsed, told_as, refused}
use Rattle.air_program.proofs.answer.answer_trace.Goals as goal

pub returns-in_err-public_values : goal.returns-in_err-public_values
returns-in_err-public_values c =
    let asked = c.args.asked in
    let p = err_from_is_err_and c.from_residual.result c.from_residual.ensures.1 in
    let no = c.in_err-public_values in
    rw (p.1, p.2) (record { ok = tt; refused = not_parsed asked.cap asked.transition_weight c.args.input.now no.field-0.0 no.ensures.refused no.ensures.syntax })

pub returns-in_err-audit : goal.returns-in_err-audit
returns-in_err-audit c =
    let asked = c.args.asked in
    let out = c.from_residual-in_err-audit in
    let p = err_from_is_err_and out.result out.ensures.1 in
    let no = c.in_err-audit in
    let main = c.trace_of-main.result in
    let public = c.in_ok-public_values.field-0.public_values.items in
    let wide : main.width ≡ 2 = search rules in
    let three : length public ≡ 3 = search rules in
    rw p.1 (record {
      ok = tt;
      refused = refused asked.cap asked.transition_weight c.args.input.now public c.in_ok-public_values.field-0.values.items p.0 c.in_ok-public_values.ensures.ok
          (rw c.trace_of-main.ensures.trace at (told_as no.field-0.0 p.0 p.2 (audit_refuses BabyBear _ _ main public asked.cap asked.transition_weight no.field-0.0 wide three c.trace_of-main.ensures.height no.ensures.refused)));
    })

pub returns : goal.returns
returns c =
    let asked = c.args.asked in
    gives _ c.render.result
    (λ a t. answered asked.cap asked.transition_weight c.args.input.now c.in_ok-public_values.field-0.public_values.items c.in_ok-public_values.field-0.values.items c.in_ok-audit.audit c.in_ok-public_values.ensures.ok (rw c.trace_of-main.ensures.trace at c.in_ok-audit.ensures.audited) a.status (string_bytes a.text) t)
    c.render.ensures.tells c.render.ensures.refused
