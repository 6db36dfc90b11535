use Rattle.std.proofs.Common.{refl, sym, ap, ◌∙◌}
use Rattle.air_symbolic.specs.Simplification.{simplified_negative}
use Rattle.air_symbolic.proofs.Simplifying.{negative, is_constant, needs_node}
use Rattle.air_symbolic.proofs.pools.pool.ExprPool.neg.Goals as goal

pub returns-in-Some-clause-simplifies : goal.returns-in-Some-clause-simplifies
returns-in-Some-clause-simplifies g c = (is_constant g.met.A.SymLeaf.leaf_laws c.nodes_fit.ensures c.constant.ensures.grown (negative g.A.F.Field.ring _) c.requires.x_in c.requires.x_in _ (ap (simplified_negative g.A.F.Field.ring) (sym c.as_const.ensures ∙ c.in-Some.is)) c.neg.ensures c.constant.ensures.made).1

pub returns-in-None-clause-simplifies : goal.returns-in-None-clause-simplifies
returns-in-None-clause-simplifies g c = (needs_node g.met.A.SymLeaf.leaf_laws c.nodes_fit.ensures c.insert_neg.ensures.grown (negative g.A.F.Field.ring _) c.requires.x_in c.requires.x_in _ c.as_const.ensures c.as_const.ensures refl (ap (simplified_negative g.A.F.Field.ring) c.in-None.is) c.insert_neg.ensures.made).1
