use Rattle.std.proofs.Common.{◌<◌, length, max, ap₂, ◌∙◌}
use Rattle.air_symbolic.specs.laws.Nodes.{of_two}
use Rattle.air_symbolic.proofs.pools.pool.ExprPool.insert_sub.Goals as goal

pub insert-requires-clause-fits : goal.insert-requires-clause-fits
insert-requires-clause-fits g c = record {
  valid = tt;
  below = of_two (λ z. z < length c.args.self.now.nodes) c.args.x c.args.y c.requires.x_in c.requires.y_in;
  degree = c.max-degree_multiple.ensures ∙ ap₂ max c.degree_multiple.ensures c.degree_multiple-2.ensures;
  in_range = c.max-degree_multiple.type_inv;
}

pub returns : goal.returns
returns g c = let e = c.insert.ensures in record { same_base = e.same_base; grown = e.grown; made = e.made; numbered = e.numbered; refused = e.refused; kept = e.kept }
