use Rattle.std.proofs.Common.{refl}
use Rattle.air_symbolic.proofs.leaves.base_leaf.BaseLeafSymLeaf.degree_multiple.Goals as goal

pub returns-in-IsLastRow : goal.returns-in-IsLastRow
returns-in-IsLastRow g c = rw c.in-IsLastRow.is refl
