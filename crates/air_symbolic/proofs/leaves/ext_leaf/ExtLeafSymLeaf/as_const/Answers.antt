use Rattle.air_symbolic.proofs.leaves.ext_leaf.ExtLeafSymLeaf.as_const.Goals as goal

pub returns-in-ExtConstant : goal.returns-in-ExtConstant
returns-in-ExtConstant g c = rw c.in-ExtConstant.is c.base_part.ensures
