use Rattle.air_author.specs.laws.Making.{made_already}
use Rattle.air_author.proofs.expressions.already.AlreadyExprExpression.make.Goals as goal

pub returns : goal.returns
returns g c = made_already g.met.AB.AirBuilder.laws _ _ _ c.requires.usable
