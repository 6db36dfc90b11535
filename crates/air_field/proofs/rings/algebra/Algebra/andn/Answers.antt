use Rattle.std.proofs.Common.{subst}
use Rattle.std.proofs.lemmas.Result.{err_from_is_err_and}
use Rattle.air_field.specs.Term.{const_term}
use Rattle.air_field.specs.Algebra.{Made}
use Rattle.air_field.proofs.BodyLaws.{andn_answers, andn_refused_one, andn_refused_rest}
use Rattle.air_field.proofs.rings.algebra.Algebra.andn.Goals as goal

pub returns-in_err-one-clause-refused : goal.returns-in_err-one-clause-refused
returns-in_err-one-clause-refused g c =
    let p = err_from_is_err_and c.from_residual.result c.from_residual.ensures.1 in
    rw (p.1, p.2)
    (andn_refused_one g.met.Self.Algebra.laws g.F.Field.ONE c.args.self.now c.args.x c.args.y c.in_err-one.field-0.0
    (subst (λ o. g.Self.Algebra.refuses c.in_err-one.field-0.0 (const_term o)) c.ONE.ensures c.in_err-one.ensures.refused))

pub returns-in_err-rest-clause-refused : goal.returns-in_err-rest-clause-refused
returns-in_err-rest-clause-refused g c =
    let p = err_from_is_err_and c.from_residual-in_err-rest.result c.from_residual-in_err-rest.ensures.1 in
    rw (p.1, p.2)
    (andn_refused_rest g.met.Self.Algebra.laws g.F.Field.ONE c.args.self.now c.constant.new.self c.constant.new.self c.constant.new.self c.args.x c.args.y c.in_ok-one.one c.in_ok-one.one c.constant.ensures.extended
    (subst (λ o. Made g.Self.Algebra.has g.Self.Algebra.means (const_term o) c.constant.new.self c.in_ok-one.one) c.ONE.ensures c.in_ok-one.ensures.made)
    c.in_err-rest.field-0.0 c.in_err-rest.ensures.refused)

pub returns : goal.returns
returns g c =
    let l = g.met.Self.Algebra.laws in
    let answers =
    andn_answers l g.F.Field.ONE c.args.self.now c.constant.new.self c.sub.new.self c.mul.new.self c.args.x c.args.y c.in_ok-one.one c.in_ok-rest.rest c.constant.ensures.extended
    (subst (λ o. Made g.Self.Algebra.has g.Self.Algebra.means (const_term o) c.constant.new.self c.in_ok-one.one) c.ONE.ensures c.in_ok-one.ensures.made)
    c.mul.result c.sub.ensures.extended c.in_ok-rest.ensures.made c.mul.ensures.made c.mul.ensures.refused in
    record { extended = l.joined _ _ _ c.constant.ensures.extended (l.joined _ _ _ c.sub.ensures.extended c.mul.ensures.extended); made = answers.0; refused = answers.1 }
