use Rattle.air_symbolic.proofs.LeafCases.{ext_trace}
use Rattle.air_symbolic.proofs.leaves.ext_leaf.ExtLeafSymLeaf.poly_degree.Goals as goal

pub returns-in-ExtVariable : goal.returns-in-ExtVariable
returns-in-ExtVariable g c = rw c.in-ExtVariable.is (ext_trace c.args.trace_len c.args.periods.now _ _ _ c.poly_degree-in-ExtVariable.ensures)
