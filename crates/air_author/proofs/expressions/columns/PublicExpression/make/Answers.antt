use Rattle.std.proofs.Common.{sym, ◌∙◌, subst, refl}
use Rattle.air_field.specs.Term.{public}
use Rattle.air_builder.specs.Refusals.{NamesLeaf}
use Rattle.air_author.specs.laws.Making.{entry_answered, leaf_gives_up}
use Rattle.air_author.proofs.expressions.columns.PublicExpression.make.Goals as goal

pub returns : goal.returns
returns g c = entry_answered g.met.AB.Ring.Algebra.laws g.met.AB.AirBuilder.laws g.AB.Ring.FromVar-2.var_means public _ _ _ _ _ _ _ _ c.to_air_result.ensures c.ring.ensures.value c.from_var.ensures.extended c.from_var.ensures.made c.from_var.ensures.refused c.public_values.ensures.reads_as c.public_values.ensures.ends (sym c.element.ensures ∙ c.in_ok-v.ensures.ok)

pub returns-in_err-v : goal.returns-in_err-v
returns-in_err-v g c =
    let e = c.in_err-v.ensures.err in
    let i = c.args.self.now.0 in
    leaf_gives_up g.met.AB.AirBuilder.laws c.args.builder.now _ _ (public i) c.from_residual.ensures.1 ((c.public_values.ensures.ends i).1 (sym c.element.ensures ∙ e.0))
    (subst (λ x. NamesLeaf x (public i)) (sym e.1) (refl, tt))
