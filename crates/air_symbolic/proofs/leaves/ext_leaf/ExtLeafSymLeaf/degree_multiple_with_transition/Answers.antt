use Rattle.air_symbolic.proofs.LeafCases.{ext_transition}
use Rattle.air_symbolic.proofs.leaves.ext_leaf.ExtLeafSymLeaf.degree_multiple_with_transition.Goals as goal

pub returns-in-ExtVariable : goal.returns-in-ExtVariable
returns-in-ExtVariable g c = rw c.in-ExtVariable.is (ext_transition c.args.weight _ _ _ c.degree_multiple.ensures)
