use Rattle.air_symbolic.specs.laws.Numbered.{one_pool}
use Rattle.air_symbolic.proofs.laws.pools_are_their_trees.Goals as goal

pub returns : goal.returns
returns g c = one_pool g.A.SymLeaf.reads
