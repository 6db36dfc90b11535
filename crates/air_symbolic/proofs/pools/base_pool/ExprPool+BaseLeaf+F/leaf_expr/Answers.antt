use Rattle.std.proofs.lemmas.Result.{IfOk-weaker}
use Rattle.air_symbolic.specs.BaseLeaves.{base_reads}
use Rattle.air_symbolic.proofs.Making.{made-leaf}
use Rattle.air_symbolic.proofs.pools.base_pool.ExprPool+BaseLeaf+F.leaf_expr.Goals as goal

pub returns-clause-made : goal.returns-clause-made
returns-clause-made g c =
    IfOk-weaker _ _ _ (λ z m. made-leaf g.F.Field.ring base_reads c.leaf_at.new.self c.args.a z (c.leaf_at.ensures.grown.pool c.nodes_fit.ensures) m) c.leaf_at.ensures.made
