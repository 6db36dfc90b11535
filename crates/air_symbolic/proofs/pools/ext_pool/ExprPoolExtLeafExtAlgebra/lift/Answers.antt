use Rattle.air_symbolic.proofs.pools.ext_pool.ExprPoolExtLeafExtAlgebra.lift.Goals as goal

pub returns-clause-extended : goal.returns-clause-extended
returns-clause-extended g c = c.lift.ensures.grown

pub returns-clause-made : goal.returns-clause-made
returns-clause-made g c = c.lift.ensures.made
