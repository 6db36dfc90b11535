use Rattle.air_symbolic.proofs.pools.pool.ExprPool.poly_degree.Goals as goal

pub returns : goal.returns
returns g c = c.root_degree.ensures
