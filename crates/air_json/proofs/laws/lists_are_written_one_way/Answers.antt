use Rattle.air_json.specs.laws.Written.{written_list, one_list, written_tree}
use Rattle.air_json.proofs.laws.lists_are_written_one_way.Goals as goal

pub returns : goal.returns
returns g c = record {
  list = written_list g.A.WireLeaf.kind g.met.A.WireLeaf.kind_laws;
  one_list = one_list g.A.WireLeaf.kind g.met.A.WireLeaf.kind_laws;
  one_tree = written_tree g.A.WireLeaf.kind g.met.A.WireLeaf.kind_laws;
}
