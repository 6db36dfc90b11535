use Rattle.std.proofs.lemmas.Result.{IfErr-weaker}
use Rattle.air_symbolic.specs.laws.PoolRefusals.{memory_refuses}
use Rattle.air_symbolic.proofs.pools.ext_pool.ExprPoolExtLeafExtAlgebra.ext_constant.Goals as goal

pub returns : goal.returns
returns g c =
    let e = c.ext_constant.ensures in
    record { extended = e.grown; made = e.made; refused = IfErr-weaker _ _ _ (λ y q. memory_refuses y _ q) e.refused }
