use contract.BorrowLft.{⊑_static}
use Rattle.std.proofs.Common.{◌≡◌, sym, subst, ◌∙◌, inl, inr}
use Rattle.std.proofs.lemmas.Result.{err_from_is_err_and}
use Rattle.air_object.specs.Input.{SpellsInput}
use Rattle.air_program.specs.FlatAnswer.{input_of}
use Rattle.air_program.proofs.FlatAnswers.{input_made}
use Rattle.air_program.proofs.flat.audit_object.Goals as goal

pub returns-in_err-constraints-clause-refused : goal.returns-in_err-constraints-clause-refused
returns-in_err-constraints-clause-refused g c =
    let p = err_from_is_err_and c.from_residual.result c.from_residual.ensures.1 in
    rw (p.1, p.2) (λ n d h. inl (c.in_err-constraints.ensures.refused n d h))

pub returns-in_err-air-clause-refused : goal.returns-in_err-air-clause-refused
returns-in_err-air-clause-refused g c =
    let out = c.from_residual-in_err-air in
    let p = err_from_is_err_and out.result out.ensures.1 in
    rw (p.1, p.2) (λ n d h. absurd (n c.in_err-air.ensures.refused))

pub returns-in_err-audit-clause-refused : goal.returns-in_err-audit-clause-refused
returns-in_err-audit-clause-refused g c =
    let m = g.F.PrimeField64.residues in
    let out = c.from_residual-in_err-audit in
    let p = err_from_is_err_and out.result out.ensures.1 in
    let input = c.in_ok-constraints.field-0 in
    let air = c.with_labels-air.result in
    let made = c.in_ok-air.ensures in
    let labelled = c.with_labels-air.ensures in
    let same : input_of air.pool air.roots air.labels air.beside input.trial ≡ input = input_made input (labelled.pool ∙ made.pool) (labelled.roots ∙ made.roots) labelled.labels (labelled.beside ∙ made.beside) in
    rw (p.1, p.2) (λ n d h. inr (input_of air.pool air.roots air.labels air.beside input.trial, subst (λ i. SpellsInput m d i) (sym same) (c.in_ok-constraints.ensures.read d h), c.in_err-audit.ensures.refused))

pub returns-clause-audited : goal.returns-clause-audited
returns-clause-audited g c = λ d h.
    let m = g.F.PrimeField64.residues in
    let input = c.in_ok-constraints.field-0 in
    let air = c.with_labels-air.result in
    let made = c.in_ok-air.ensures in
    let labelled = c.with_labels-air.ensures in
    let same : input_of air.pool air.roots air.labels air.beside input.trial ≡ input = input_made input (labelled.pool ∙ made.pool) (labelled.roots ∙ made.roots) labelled.labels (labelled.beside ∙ made.beside) in
    record { spelt = subst (λ i. SpellsInput m d i) (sym same) (c.in_ok-constraints.ensures.read d h); audited = c.in_ok-audit.ensures.audited }

pub audit_on-requires-lives-A-Air-2 : goal.audit_on-requires-lives-A-Air-2
audit_on-requires-lives-A-Air-2 g c κs within = λ a m. ⊑_static _ a (c.type_bounds.static-F a m)

pub audit_on-requires-lives-A-Air-2-2 : goal.audit_on-requires-lives-A-Air-2-2
audit_on-requires-lives-A-Air-2-2 g c κs within = λ a m. ⊑_static _ a (c.type_bounds.static-F a m)

pub audit_on-requires-lives-A-Air-2-3 : goal.audit_on-requires-lives-A-Air-2-3
audit_on-requires-lives-A-Air-2-3 g c κs within = λ a m. ⊑_static _ a (c.type_bounds.static-F a m)

pub audit_on-requires-lives-A-Air-2-4 : goal.audit_on-requires-lives-A-Air-2-4
audit_on-requires-lives-A-Air-2-4 g c κs within = λ a m. ⊑_static _ a (c.type_bounds.static-F a m)

pub audit_on-requires-lives-A-Air-2-5 : goal.audit_on-requires-lives-A-Air-2-5
audit_on-requires-lives-A-Air-2-5 g c κs within = λ a m. ⊑_static _ a (c.type_bounds.static-F a m)

pub audit_on-requires-lives-A-Air-2-6 : goal.audit_on-requires-lives-A-Air-2-6
audit_on-requires-lives-A-Air-2-6 g c κs within = λ a m. ⊑_static _ a (c.type_bounds.static-F a m)
