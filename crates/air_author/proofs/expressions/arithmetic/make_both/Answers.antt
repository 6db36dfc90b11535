use Rattle.air_author.specs.laws.Making.{first_gives_up, second_gives_up, one_by_one}
use Rattle.air_author.proofs.expressions.arithmetic.make_both.Goals as goal

pub returns-in_err-first : goal.returns-in_err-first
returns-in_err-first g c = first_gives_up c.from_residual.ensures.1 c.in_err-first.ensures

pub returns-in_err-second : goal.returns-in_err-second
returns-in_err-second g c = second_gives_up g.met.AB.Ring.Algebra.laws g.met.AB.AirBuilder.laws _ _ _ _ _ _ _ _ c.in_ok-first.ensures c.from_residual-in_err-second.ensures.1 c.in_err-second.ensures

pub returns : goal.returns
returns g c = one_by_one g.met.AB.Ring.Algebra.laws g.met.AB.AirBuilder.laws _ _ _ _ _ _ _ c.in_ok-first.ensures c.in_ok-second.ensures
