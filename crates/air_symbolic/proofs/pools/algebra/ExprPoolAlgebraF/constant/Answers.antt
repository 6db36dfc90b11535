use Rattle.std.proofs.lemmas.Result.{IfOk-weaker}
use Rattle.air_symbolic.proofs.Making.{made-constant}
use Rattle.air_symbolic.proofs.pools.algebra.ExprPoolAlgebraF.constant.Goals as goal

pub returns-clause-made : goal.returns-clause-made
returns-clause-made g c =
    let e = c.constant.ensures in
    IfOk-weaker _ _ _
    (λ z m. made-constant g.A.F.Field.ring g.A.SymLeaf.reads c.constant.new.self c.args.c z (e.grown.pool c.requires) m)
    e.made
