use Rattle.std.proofs.Common.{refl}
use Rattle.air_symbolic.proofs.leaves.base_leaf.BaseLeafSymLeaf.from_const.Goals as goal

pub returns : goal.returns
returns g c = record { grown = tt; made = record { valid = tt; constant = refl; term = refl }; refused = tt }
