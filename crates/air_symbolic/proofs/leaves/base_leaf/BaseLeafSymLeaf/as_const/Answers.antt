use Rattle.air_symbolic.proofs.LeafCases.{no_constant}
use Rattle.air_symbolic.proofs.leaves.base_leaf.BaseLeafSymLeaf.as_const.Goals as goal

pub returns-in_default : goal.returns-in_default
returns-in_default g c = no_constant c.args.self.now c.in_default.not-Constant
