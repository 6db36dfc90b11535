use Rattle.air_author.specs.laws.Asserting.{asserted_then, beginning_gives_up}
use Rattle.air_gadgets.proofs.values.sums.assert_both_zero.Goals as goal

pub returns : goal.returns
returns g c = asserted_then g.met.AB.AirBuilder.laws _ _ _ _ c.assert_zero-2.result _ _ c.in_ok-assert_zero.ensures c.assert_zero-2.ensures

pub returns-in_err-assert_zero : goal.returns-in_err-assert_zero
returns-in_err-assert_zero g c = beginning_gives_up g.met.AB.AirBuilder.laws _ c.from_residual.ensures.1 c.in_err-assert_zero.ensures
