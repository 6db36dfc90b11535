use Rattle.air_audit.proofs.Making.{made_already, read_is}
use Rattle.air_audit.proofs.Roots.{has_within}
use Rattle.air_audit.proofs.flat.nodes.AtPlaceExprFExpression.make.Goals as goal

pub expression_at-requires : goal.expression_at-requires
expression_at-requires g c = has_within _ _ _ (c.requires.usable _ (g.met.AB.AirBuilder.laws.by_growth _ _ _ (g.met.AB.AirBuilder.laws.same _)))

pub returns : goal.returns
returns g c =
    let laws = g.met.AB.AirBuilder.laws in
    made_already laws _ _ _ (read_is _ c.args.self.now.2.now c.args.self.now.3 _ (c.requires.usable _ (laws.by_growth _ _ _ (laws.same _))) c.expression_at.ensures)
