use Rattle.serde_json.specs.View.{view}
use Rattle.air_json.specs.Nodes.{root_of}
use Rattle.air_json.specs.Unshared.{seen_at}
use Rattle.air_json.specs.NodeLists.{IsList, HasFault}
use Rattle.air_json.specs.laws.Lists.{root_found, root_fault, gives_ok, gives_err}
use Rattle.air_json.proofs.lists.from_flat_value.Goals as goal

pub returns-clause-root : goal.returns-clause-root
returns-clause-root g c =
    let A = g.A.WireLeaf in
    gives_ok (IsList A.kind (view c.args.value.now)) (seen_at A.seen c.list_from.new.pool) c.list_from.result (root_of A.kind (view c.args.value.now)) c.list_from.ensures.read.read (root_found A.kind g.met.A.WireLeaf.kind_laws (view c.args.value.now))

pub returns-clause-fault : goal.returns-clause-fault
returns-clause-fault g c =
    let A = g.A.WireLeaf in
    gives_err (HasFault A.kind (view c.args.value.now)) (seen_at A.seen c.list_from.new.pool) c.list_from.result (root_of A.kind (view c.args.value.now)) c.list_from.ensures.read.read (root_fault A.kind g.met.A.WireLeaf.kind_laws (view c.args.value.now))

pub returns-clause-pool : goal.returns-clause-pool
returns-clause-pool g c = c.list_from.ensures.read.grown.pool c.nodes_fit.ensures
