use Rattle.std.proofs.Common.{sym, ◌∙◌, subst, refl, IfSome}
use Rattle.air_field.specs.Term.{leaf_term}
use Rattle.air_core.specs.Entries.{entry_leaf}
use Rattle.air_builder.specs.Builders.{VariableReadsAs}
use Rattle.air_builder.specs.Refusals.{NamesLeaf}
use Rattle.air_author.specs.laws.Making.{operation_answered, some_none, leaf_gives_up}
use Rattle.air_author.proofs.expressions.columns.make_found.Goals as goal

pub returns : goal.returns
returns g c =
    let m = subst (λ o. IfSome o (VariableReadsAs g.AB.Ring.FromVar-1.var_means (g.AB.AirBuilder.reads_as c.args.builder.now) (entry_leaf c.args.entry c.args.index))) c.in_ok-v.ensures.ok c.requires.found in
    operation_answered g.met.AB.Ring.Algebra.laws g.met.AB.AirBuilder.laws (g.AB.Ring.FromVar-1.var_means c.in_ok-v.v) (λ u. u) _ _ _ _ _ _ (leaf_term (entry_leaf c.args.entry c.args.index)) _ c.to_air_result.ensures (g.met.AB.AirBuilder.laws.same _) c.ring.ensures.value c.from_var.ensures.extended c.from_var.ensures.made c.from_var.ensures.refused m refl (λ h. some_none (sym c.in_ok-v.ensures.ok ∙ c.requires.none.1 h))

pub returns-in_err-v : goal.returns-in_err-v
returns-in_err-v g c =
    let e = c.in_err-v.ensures.err in
    leaf_gives_up g.met.AB.AirBuilder.laws c.args.builder.now _ _ (entry_leaf c.args.entry c.args.index) c.from_residual.ensures.1 (c.requires.none.0 e.0)
    (subst (λ x. NamesLeaf x (entry_leaf c.args.entry c.args.index)) (sym e.1) (refl, c.requires.of_window))
