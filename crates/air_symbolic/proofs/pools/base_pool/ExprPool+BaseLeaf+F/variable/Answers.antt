use Rattle.air_symbolic.proofs.pools.base_pool.ExprPool+BaseLeaf+F.variable.Goals as goal

pub returns : goal.returns
returns g c = let e = c.leaf_expr.ensures in record { grown = e.grown; tree = e.tree; made = e.made; refused = e.refused; kept = e.kept }
