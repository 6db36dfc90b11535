use Rattle.std.proofs.Common.{ap}
use Rattle.std.specs.Prelude.{option_map}
use Rattle.air_symbolic.specs.laws.Numbers.{tree_of-valid}
use Rattle.air_symbolic.specs.ExtLeaves.{ext_reads}
use Rattle.air_symbolic.specs.ExtTrees.{whole_tree}
use Rattle.air_symbolic.specs.Pools.{tree_at}
use Rattle.air_symbolic.specs.laws.WholeTrees.{same_whole_tree}
use Rattle.air_symbolic.proofs.laws.is_same_whole_tree.Goals as goal

pub returns : goal.returns
returns g c =
    let p = c.args.pool.now in
    let r = c.requires in
    let l = ext_reads g.EF.ExtensionField.basis p.base in
    let d = c.is_same_tree.ensures.trees in
    record {
      numbers = c.is_same_tree.ensures.numbers;
      trees = (
        λ q. ap (option_map (whole_tree p.base)) (d.0 q),
        λ e. d.1 (same_whole_tree p.base (tree_at p c.args.x) (tree_at p c.args.y) (tree_of-valid l p.nodes c.nodes_fit.ensures.nodes c.args.x r.x_in) (tree_of-valid l p.nodes c.nodes_fit.ensures.nodes c.args.y r.y_in) e),
      );
    }
