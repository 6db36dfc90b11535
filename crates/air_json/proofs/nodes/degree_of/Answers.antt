use Rattle.air_json.proofs.SeenTrees.{degree_is_seen}
use Rattle.air_json.proofs.nodes.degree_of.Goals as goal

pub returns : goal.returns
returns g c =
    let A = g.A.WireLeaf in
    degree_is_seen g.A.SymLeaf.reads g.A.SymLeaf.grows A.seen A.kind.term g.met.A.WireLeaf.wire_laws c.args.pool.now c.args.id c.degree_multiple.result c.degree_multiple.ensures
