use Rattle.std.proofs.Common.{◌∙◌, ap}
use Rattle.std.specs.Prelude.{option_map}
use Rattle.air_symbolic.specs.laws.Numbers.{tree_of-valid}
use Rattle.air_symbolic.specs.laws.Pools.{tree-kept}
use Rattle.air_symbolic.specs.ExtLeaves.{no_base_nodes, ext_reads, ext_grows}
use Rattle.air_symbolic.specs.laws.ExtLeaves.{ext_leaf_laws}
use Rattle.air_symbolic.specs.ExtTrees.{whole_tree}
use Rattle.air_symbolic.specs.Pools.{tree_at}
use Rattle.air_symbolic.specs.laws.WholeTrees.{whole_tree-kept}
use Rattle.air_symbolic.proofs.laws.whole_tree_is_kept.Goals as goal

pub returns : goal.returns
returns g c =
    let r = g.F.Field.ring in
    let p = c.args.pool.now in
    let i = c.args._x in
    let reads = ext_reads g.EF.ExtensionField.basis in
    let laws = ext_leaf_laws g.met.EF.ExtensionField.laws in
    λ q h. ap (option_map (whole_tree q.base)) (tree-kept r reads ext_grows no_base_nodes laws p q i h c.requires.here)
    ∙ whole_tree-kept r p.base q.base h.base (tree_at p i) (tree_of-valid (reads p.base) p.nodes c.nodes_fit.ensures.nodes i c.requires.here)
