use Rattle.std.proofs.lemmas.Result.{IfOk-weaker}
use Rattle.air_symbolic.specs.ExtLeaves.{ext_reads}
use Rattle.air_symbolic.proofs.Making.{made-leaf}
use Rattle.air_symbolic.proofs.pools.ext_pool.ExprPool+ExtLeaf+F+EF.variable.Goals as goal

pub returns-clause-made : goal.returns-clause-made
returns-clause-made g c =
    let reads = ext_reads g.EF.ExtensionField.basis in
    let e = c.leaf.ensures in
    IfOk-weaker _ _ _ (λ z m. made-leaf g.F.Field.ring reads c.leaf.new.self _ z (e.grown.pool c.nodes_fit.ensures) m) e.made
