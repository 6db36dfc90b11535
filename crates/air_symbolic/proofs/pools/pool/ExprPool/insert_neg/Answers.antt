use Rattle.std.proofs.Common.{◌<◌, length}
use Rattle.air_symbolic.specs.laws.Nodes.{of_one}
use Rattle.air_symbolic.proofs.pools.pool.ExprPool.insert_neg.Goals as goal

pub insert-requires : goal.insert-requires
insert-requires g c = record {
  owed = c.requires.owed;
  fits = record {
    valid = tt;
    below = of_one (λ z. z < length c.args.self.now.nodes) c.args.x c.requires.x_in;
    degree = c.degree_multiple-degree_multiple.ensures;
    in_range = c.degree_multiple-degree_multiple.type_inv;
  };
}

pub returns : goal.returns
returns g c = let e = c.insert.ensures in record { same_base = e.same_base; grown = e.grown; made = e.made; numbered = e.numbered; refused = e.refused; kept = e.kept }
