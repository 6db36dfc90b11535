use Rattle.serde_json.specs.View.{view}
use Rattle.air_symbolic.specs.Pools.{tree_at}
use Rattle.air_json.specs.BaseLeaves.{base_kind}
use Rattle.air_json.specs.Nodes.{root_of}
use Rattle.air_json.proofs.Lifting.{moved_tree, moved_fault}
use Rattle.air_json.proofs.ext_leaf.base_from.Goals as goal

pub returns-in-Ok : goal.returns-in-Ok
returns-in-Ok g c = record {
  grown = c.list_from.ensures.read.grown;
  here = c.in-Ok.ensures.read.here;
  read = moved_tree c.args.at (tree_at c.list_from.new.pool c.in-Ok.id) (root_of (base_kind g.F.PrimeField64.residues) (view c.args.contents.now)) c.in-Ok.ensures.read.read;
}

pub returns-in-Err : goal.returns-in-Err
returns-in-Err g c = record {
  grown = c.list_from.ensures.read.grown;
  here = tt;
  read = rw c.at_place.ensures (moved_fault c.args.at c.in-Err.fault (root_of (base_kind g.F.PrimeField64.residues) (view c.args.contents.now)) c.in-Err.ensures.read.read);
}
