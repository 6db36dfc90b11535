use Rattle.std.proofs.Common.{◌<◌, rules}
use Rattle.std.proofs.lemmas.Result.{err_from_is_err_and}
use Rattle.air_author.specs.laws.Asserting.{first_more, first_refused, nothing_asserted}
use Rattle.air_author.proofs.constraints.families.AllConstraint.assert_under.Goals as goal

pub loop-index-init : goal.loop-index-init
loop-index-init g c = let h = nothing_asserted g.met.AB.AirBuilder.laws c.args.builder.now in record { keeps = h.asserted.keeps; asserted = h }

pub returns-in_err-assert_at-clause-asserted : goal.returns-in_err-assert_at-clause-asserted
returns-in_err-assert_at-clause-asserted g c =
    let p = err_from_is_err_and c.from_residual.result c.from_residual.ensures.1 in
    let lt : c.loop-index.index < g.C.Family.size c.args.self.now.0 = search rules in
    rw (p.1, p.2) (first_refused g.met.AB.AirBuilder.laws (λ i. g.C.Family.asserts_at c.args.self.now.0 i (g.K.Condition.under c.args.condition.now) (g.K.Condition.ext_under c.args.condition.now)) c.args.builder.now c.loop-index.builder c.assert_at.new.builder c.in_err-assert_at.field-0.0 c.loop-index.index (g.C.Family.size c.args.self.now.0) lt c.loop-index.invariant.asserted c.in_err-assert_at.ensures)

pub loop-index-preserved : goal.loop-index-preserved
loop-index-preserved g c =
    let h = first_more g.met.AB.AirBuilder.laws (λ i. g.C.Family.asserts_at c.args.self.now.0 i (g.K.Condition.under c.args.condition.now) (g.K.Condition.ext_under c.args.condition.now)) c.args.builder.now c.loop-index.builder c.assert_at.new.builder c.in_ok-assert_at.field-0 c.loop-index.index c.loop-index.invariant.asserted c.in_ok-assert_at.ensures in
    record { keeps = h.asserted.keeps; asserted = h }
