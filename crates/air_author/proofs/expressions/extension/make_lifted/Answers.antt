use Rattle.air_author.specs.laws.Making.{lift_answered}
use Rattle.air_author.proofs.Lifting.{lift_gives_up, made_in_base}
use Rattle.air_author.proofs.expressions.extension.make_lifted.Goals as goal

pub returns : goal.returns
returns g c = lift_answered g.met.AB.ExtRing.Algebra.laws g.met.AB.AirBuilder.laws g.met.AB.ExtensionBuilder.ext_laws _ _ _ _ _ _ _ _ c.requires.ready c.in_ok-x.ensures c.to_air_result.ensures c.ext_ring.ensures.value c.lift.ensures.extended c.lift.ensures.made c.lift.ensures.refused

pub returns-in_err-x : goal.returns-in_err-x
returns-in_err-x g c = lift_gives_up c.from_residual.ensures.1 c.in_err-x.ensures

pub lift-requires : goal.lift-requires
lift-requires g c = made_in_base g.met.AB.Ring.Algebra.laws g.met.AB.AirBuilder.laws g.met.AB.ExtensionBuilder.ext_laws _ _ _ _ _ c.requires.ready c.in_ok-x.ensures c.ext_ring.ensures.value
