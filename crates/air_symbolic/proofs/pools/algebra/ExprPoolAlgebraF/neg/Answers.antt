use Rattle.air_field.specs.Term.{neg_term}
use Rattle.air_field.specs.laws.Degree.{Simplifies-neg}
use Rattle.air_symbolic.proofs.Making.{made-one}
use Rattle.air_symbolic.proofs.pools.algebra.ExprPoolAlgebraF.neg.Goals as goal

pub returns-clause-extended : goal.returns-clause-extended
returns-clause-extended g c = c.neg.ensures.grown

pub returns-clause-made : goal.returns-clause-made
returns-clause-made g c =
    made-one (c.neg.ensures.grown.pool c.requires.pool) _ _ _ _ _ neg_term (Simplifies-neg g.A.F.Field.ring) c.neg.ensures.made c.neg.ensures.simplifies
