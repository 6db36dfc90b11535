use Rattle.std.proofs.Common.{◌≡◌, ◌<◌, ◌-◌, ◌∙◌, suc, arith, ap}
use Rattle.air_field.specs.Term.{with_leaves}
use Rattle.air_author.specs.Expressions.{power_term}
use Rattle.air_author.specs.laws.Making.{made_in_ring, part_gives_up, one_answered}
use Rattle.air_author.proofs.Powers.{in_power, each_power, power_with_leaves}
use Rattle.air_author.proofs.expressions.power.PowerExpression.make.Goals as goal

pub returns-in_err-x : goal.returns-in_err-x
returns-in_err-x g c =
    let lt : 0 < c.args.self.now.1 = omega arith in
    part_gives_up (in_power _ _ 0 _ lt) c.from_residual.ensures.1 c.in_err-x.ensures

pub returns : goal.returns
returns g c =
    let one = g.AB.F.Field.ring.one in
    let at = g.AB.AirBuilder.reads_as c.make-2.new.builder in
    let t = g.X.Expression.term c.args.self.now.0 in
    let n : suc (c.args.self.now.1 - 1) ≡ c.args.self.now.1 = omega arith in
    one_answered g.met.AB.Ring.Algebra.laws g.met.AB.AirBuilder.laws (λ u. power_term one u (suc (c.args.self.now.1 - 1))) _ _ _ _ _ _ _ _ _ c.in_ok-x.ensures c.to_air_result.ensures c.ring.ensures.value c.multiply_by_itself.ensures.extended c.multiply_by_itself.ensures.made c.multiply_by_itself.ensures.refused
    (ap (power_term one (with_leaves at t)) n ∙ power_with_leaves at one t c.args.self.now.1) (each_power _ one t c.args.self.now.1)

pub multiply_by_itself-requires : goal.multiply_by_itself-requires
multiply_by_itself-requires g c = made_in_ring g.met.AB.Ring.Algebra.laws g.met.AB.AirBuilder.laws _ _ _ _ _ c.in_ok-x.ensures c.ring.ensures.value
