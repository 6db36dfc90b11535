use Rattle.air_symbolic.proofs.leaves.ext_leaf.ExtLeafSymLeaf.degree_multiple.Goals as goal

pub returns-in-ExtVariable : goal.returns-in-ExtVariable
returns-in-ExtVariable g c = rw c.in-ExtVariable.is c.degree_multiple-in-ExtVariable.ensures
