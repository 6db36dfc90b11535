use Rattle.air_symbolic.proofs.pools.pool.ExprPool.degree_multiple_with_transition.Goals as goal

pub returns : goal.returns
returns g c = c.root_degree.ensures
