use Rattle.air_symbolic.specs.laws.ExtPool.{base_lent}
use Rattle.air_symbolic.proofs.laws.pool_grows_with_base.Goals as goal

pub returns : goal.returns
returns g c = λ u h. base_lent g.met.EF.ExtensionField.laws c.args._pool.now u h
