use Rattle.std.proofs.Common.{sym, ◌∙◌, subst, refl, IfSome}
use Rattle.air_field.specs.Term.{permutation, leaf_term}
use Rattle.air_builder.specs.Builders.{VariableReadsAs}
use Rattle.air_builder.specs.Refusals.{NamesLeaf}
use Rattle.air_builder.specs.laws.Extensions.{over_extension}
use Rattle.air_author.specs.laws.Making.{operation_answered, some_none, window_gives_up, leaf_gives_up}
use Rattle.air_author.proofs.expressions.permutation.make_column.Goals as goal

pub returns : goal.returns
returns g c =
    let laws = g.met.AB.AirBuilder.laws in
    let leaf = permutation c.args.offset c.args.index in
    let found = c.in_ok-found.ensures in
    let is = c.in_ok-v.ensures.ok in
    let means = subst (λ o. IfSome o (VariableReadsAs g.AB.ExtRing.FromVar-1.var_means (g.AB.AirBuilder.reads_as c.args.builder.now) leaf)) is found.found in
    let there = found.none c.requires.within in
    operation_answered g.met.AB.ExtRing.Algebra.laws (over_extension laws g.met.AB.ExtensionBuilder.ext_laws) (g.AB.ExtRing.FromVar-1.var_means c.in_ok-v.v) (λ u. u) _ _ _ _ _ _ (leaf_term leaf) _ c.to_air_result.ensures (laws.same _) c.ext_ring.ensures.value c.from_var.ensures.extended c.from_var.ensures.made c.from_var.ensures.refused means refl (λ h. some_none (sym is ∙ there.1 h))

pub returns-in_err-found : goal.returns-in_err-found
returns-in_err-found g c = window_gives_up g.met.AB.AirBuilder.laws _ _ _ c.args.offset _ c.from_residual.ensures.1 c.in_err-found.ensures.refused

pub returns-in_err-v : goal.returns-in_err-v
returns-in_err-v g c =
    let e = c.in_err-v.ensures.err in
    let leaf = permutation c.args.offset c.args.index in
    leaf_gives_up g.met.AB.AirBuilder.laws c.args.builder.now _ _ leaf c.from_residual-in_err-v.ensures.1 ((c.in_ok-found.ensures.none c.requires.within).0 e.0)
    (subst (λ x. NamesLeaf x leaf) (sym e.1) refl)
