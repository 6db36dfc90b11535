use Rattle.std.proofs.lemmas.Result.{IfOk-weaker}
use Rattle.air_symbolic.proofs.Making.{made-lifted}
use Rattle.air_symbolic.proofs.pools.ext_pool.ExprPool+ExtLeaf+F+EF.lift.Goals as goal

pub returns : goal.returns
returns g c =
    let e = c.leaf.ensures in
    record {
      same_base = e.same_base;
      grown = e.grown;
      tree = e.made;
      made = IfOk-weaker _ _ _ (made-lifted g.F.Field.ring g.EF.ExtensionField.basis c.args.self.now c.leaf.new.self c.args.x e.same_base (e.grown.pool c.nodes_fit.ensures)) e.made;
      refused = e.refused;
      kept = e.kept;
    }
