use Rattle.air_field.specs.Term.{mul_term}
use Rattle.air_field.specs.laws.Degree.{Simplifies-mul}
use Rattle.air_symbolic.proofs.Making.{made-both, refused-product}
use Rattle.air_symbolic.proofs.pools.algebra.ExprPoolAlgebraF.mul.Goals as goal

pub returns : goal.returns
returns g c =
    let e = c.mul.ensures in
    record {
      extended = e.grown;
      made = made-both (e.grown.pool c.requires.x_in.pool) _ _ _ _ _ _ mul_term (Simplifies-mul g.A.F.Field.ring) e.made e.simplifies;
      refused = refused-product g.A.F.Field.ring g.A.SymLeaf.reads c.args.self.now c.args.x c.args.y c.mul.result (λ o. (e.overflow.0 o).1);
    }
