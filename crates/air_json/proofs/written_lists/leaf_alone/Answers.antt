use Rattle.serde_json.specs.View.{view}
use Rattle.air_json.proofs.Alone.{leaf_written}
use Rattle.air_json.proofs.written_lists.leaf_alone.Goals as goal

pub returns-clause-written : goal.returns-clause-written
returns-clause-written g c =
    let A = g.A.WireLeaf in
    rw (c.in_ok-push.ensures.items, c.in_ok-items.ensures.items) (leaf_written A.kind (view c.in_ok-node.node) (A.seen c.args.base.now c.args.leaf.now) c.in_ok-node.ensures.written)
