use Rattle.air_symbolic.proofs.pools.node_table.NodeTable.push.Goals as goal

pub invariant_of-self-in_err-enter : goal.invariant_of-self-in_err-enter
invariant_of-self-in_err-enter g c = rw c.reserve.ensures.items (c.in_err-enter.ensures.refused c.self.inside.nodes.items c.self.invariant)
