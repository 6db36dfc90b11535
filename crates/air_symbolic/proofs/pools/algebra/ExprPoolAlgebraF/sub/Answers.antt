use Rattle.air_field.specs.Term.{sub_term}
use Rattle.air_field.specs.laws.Degree.{Simplifies-sub}
use Rattle.air_symbolic.proofs.Making.{made-both}
use Rattle.air_symbolic.proofs.pools.algebra.ExprPoolAlgebraF.sub.Goals as goal

pub returns-clause-made : goal.returns-clause-made
returns-clause-made g c =
    made-both (c.sub.ensures.grown.pool c.requires.x_in.pool) _ _ _ _ _ _ sub_term (Simplifies-sub g.A.F.Field.ring) c.sub.ensures.made c.sub.ensures.simplifies
