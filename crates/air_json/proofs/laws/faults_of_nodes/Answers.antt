use Rattle.air_json.specs.laws.NodeFaults.{node_fault, node_fails}
use Rattle.air_json.proofs.laws.faults_of_nodes.Goals as goal

pub returns : goal.returns
returns g c = λ before d f.
    let kind = g.A.WireLeaf.kind in
    let laws = g.met.A.WireLeaf.kind_laws in
    (node_fault kind laws before d f, node_fails kind laws before d f)
