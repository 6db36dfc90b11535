use Rattle.air_field.specs.laws.Degree.{polynomial-degree}
use Rattle.air_symbolic.specs.Pools.{term_at}
use Rattle.air_symbolic.proofs.laws.polynomial_is_within_degree.Goals as goal

pub returns : goal.returns
returns g c = λ a s w h. polynomial-degree a s w h (term_at g.A.SymLeaf.reads c.args._pool.now c.args._x)
