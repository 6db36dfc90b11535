use Rattle.std.proofs.Common.{inl, inr, arith}
use Rattle.air_field.specs.Part.{whole, in_mul_left}
use Rattle.air_field.specs.laws.Part.{part_in}
use Rattle.air_gadgets.proofs.Sharing.{both_give_up, both_then, first_lasts, second_lasts}
use Rattle.air_gadgets.proofs.values.sums.assert_zero_but_two_carries.Goals as goal

pub returns-in_err-made : goal.returns-in_err-made
returns-in_err-made g c =
    let K = g.met.K.Condition in
    both_give_up g.met.AB.Ring.Algebra.laws g.met.AB.AirBuilder.laws _ (omega arith)
    (inr (inl (part_in (in_mul_left (in_mul_left whole)) (K.keeps_part c.args.condition.now _)))) (inl (part_in (in_mul_left (in_mul_left whole)) (K.keeps_part c.args.condition.now _)))
    c.from_residual.ensures.1 c.in_err-made.ensures

pub assert_both_zero-requires-clause-usable : goal.assert_both_zero-requires-clause-usable
assert_both_zero-requires-clause-usable g c =
    let ring = g.met.AB.Ring.Algebra.laws in
    let laws = g.met.AB.AirBuilder.laws in
    let made = c.in_ok-made.ensures in
    λ b k. (
      (second_lasts ring laws made b k, first_lasts ring laws made b k),
      (c.requires.usable b (laws.kept_joined _ _ _ (laws.by_growth _ _ _ made.keeps) k)).1,
    )

pub returns : goal.returns
returns g c = both_then g.met.AB.Ring.Algebra.laws g.met.AB.AirBuilder.laws c.in_ok-made.ensures _ c.assert_both_zero.result _ c.assert_both_zero.ensures
