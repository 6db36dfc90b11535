use Rattle.std.proofs.Common.{◌<◌, arith, length, sym, subst}
use Rattle.std.proofs.lemmas.List.Elements.{All-get_or}
use Rattle.std.proofs.lemmas.Result.{err_from_is_err_and}
use Rattle.air_author.specs.laws.Asserting.{each_more, each_refused, nothing_asserted}
use Rattle.air_author.proofs.constraints.families.EachConstraint.assert_under.Goals as goal

pub loop-constraint-init : goal.loop-constraint-init
loop-constraint-init g c = let h = nothing_asserted g.met.AB.AirBuilder.laws c.args.builder.now in record { keeps = h.asserted.keeps; asserted = h }

pub returns-in_err-assert_under-clause-asserted : goal.returns-in_err-assert_under-clause-asserted
returns-in_err-assert_under-clause-asserted g c =
    let p = err_from_is_err_and c.from_residual.result c.from_residual.ensures.1 in
    let lt : c.loop-constraint.constraint-index < length c.args.self.now.0.now = omega arith in
    rw (p.1, p.2) (each_refused g.met.AB.AirBuilder.laws (λ x. g.C.Constraint.asserts x (g.K.Condition.under c.args.condition.now) (g.K.Condition.ext_under c.args.condition.now)) c.args.builder.now c.loop-constraint.builder c.assert_under.new.builder c.in_err-assert_under.field-0.0 c.args.self.now.0.now c.loop-constraint.constraint-index c.constraint-item.result lt c.constraint-item.is c.loop-constraint.invariant.asserted c.in_err-assert_under.ensures.asserted)

pub loop-constraint-preserved : goal.loop-constraint-preserved
loop-constraint-preserved g c =
    let lt : c.loop-constraint.constraint-index < length c.args.self.now.0.now = omega arith in
    let h = each_more g.met.AB.AirBuilder.laws (λ x. g.C.Constraint.asserts x (g.K.Condition.under c.args.condition.now) (g.K.Condition.ext_under c.args.condition.now)) c.args.builder.now c.loop-constraint.builder c.assert_under.new.builder c.in_ok-assert_under.field-0 c.args.self.now.0.now c.loop-constraint.constraint-index c.constraint-item.result lt c.constraint-item.is c.loop-constraint.invariant.asserted c.in_ok-assert_under.ensures.asserted in
    record { keeps = h.asserted.keeps; asserted = h }

pub assert_under-requires-clause-usable : goal.assert_under-requires-clause-usable
assert_under-requires-clause-usable g c =
    let lt : c.loop-constraint.constraint-index < length c.args.self.now.0.now = omega arith in
    λ b k.
    let h = c.requires.usable b (g.met.AB.AirBuilder.laws.kept_joined _ _ _ c.loop-constraint.invariant.keeps k) in
    (subst (λ x. g.C.Constraint.usable x b) (sym c.constraint-item.is) (All-get_or (λ x. g.C.Constraint.usable x b) c.args.self.now.0.now c.loop-constraint.constraint-index c.constraint-item.result lt h.0), h.1)
