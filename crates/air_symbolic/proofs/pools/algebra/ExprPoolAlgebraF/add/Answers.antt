use Rattle.air_field.specs.Term.{add_term}
use Rattle.air_field.specs.laws.Degree.{Simplifies-add}
use Rattle.air_symbolic.proofs.Making.{made-both}
use Rattle.air_symbolic.proofs.pools.algebra.ExprPoolAlgebraF.add.Goals as goal

pub returns-clause-made : goal.returns-clause-made
returns-clause-made g c =
    made-both (c.add.ensures.grown.pool c.requires.x_in.pool) _ _ _ _ _ _ add_term (Simplifies-add g.A.F.Field.ring) c.add.ensures.made c.add.ensures.simplifies
