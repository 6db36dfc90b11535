use Rattle.air_symbolic.proofs.Simplifying.{sum, is_simplified, needs_node}
use Rattle.air_symbolic.proofs.pools.pool.ExprPool.add.Goals as goal

pub returns-in-Some-clause-simplifies : goal.returns-in-Some-clause-simplifies
returns-in-Some-clause-simplifies g c = (is_simplified g.met.A.SymLeaf.leaf_laws c.nodes_fit.ensures c.simplified_to.ensures.grown (sum g.met.A.F.Field.eq_is _) c.requires.x_in c.requires.y_in _ c.as_const.ensures c.as_const-2.ensures c.simplify_sum.ensures c.in-Some.is c.simplified_to.ensures.made).1

pub returns-in-None-clause-simplifies : goal.returns-in-None-clause-simplifies
returns-in-None-clause-simplifies g c = (needs_node g.met.A.SymLeaf.leaf_laws c.nodes_fit.ensures c.insert_add.ensures.grown (sum g.met.A.F.Field.eq_is _) c.requires.x_in c.requires.y_in _ c.as_const.ensures c.as_const-2.ensures c.simplify_sum.ensures c.in-None.is c.insert_add.ensures.made).1
