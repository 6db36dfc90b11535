use Rattle.air_json.specs.laws.Lists.{one_tree, no_fault, one_fault}
use Rattle.air_json.proofs.laws.lists_are_read_one_way.Goals as goal

pub returns : goal.returns
returns g c = record {
  one_tree = one_tree g.A.WireLeaf.kind g.met.A.WireLeaf.kind_laws;
  no_fault = no_fault g.A.WireLeaf.kind g.met.A.WireLeaf.kind_laws;
  one_fault = one_fault g.A.WireLeaf.kind g.met.A.WireLeaf.kind_laws;
}
