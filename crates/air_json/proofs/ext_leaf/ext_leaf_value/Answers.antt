use Rattle.serde_json.specs.View.{view}
use Rattle.air_symbolic.specs.Pools.{tree_at}
use Rattle.air_json.proofs.Lifting.{written_tree}
use Rattle.air_json.proofs.ext_leaf.ext_leaf_value.Goals as goal

pub returns-in_ok-case_value-in-Base-clause-written : goal.returns-in_ok-case_value-in-Base-clause-written
returns-in_ok-case_value-in-Base-clause-written g c =
    let list = c.in_ok-list-in-Base.list in
    rw c.in-Base.is (view list, c.in_ok-case_value-in-Base.ensures, written_tree g.F.PrimeField64.residues (view list) (tree_at c.args.base.now c.in-Base.id) c.in_ok-list-in-Base.ensures.written)
