use Rattle.std.proofs.Common.{sym, ap, ◌∙◌}
use Rattle.air_symbolic.specs.Trees.{tree_constant}
use Rattle.air_symbolic.specs.Pools.{Pool}
use Rattle.air_symbolic.specs.Nodes.{unfold_node, tree_of}
use Rattle.air_symbolic.proofs.pools.pool.ExprPool.as_const.Goals as goal

pub returns-in-Leaf : goal.returns-in-Leaf
returns-in-Leaf g c =
    let p = c.args.self.now in
    let tree = c.node.ensures.tree ∙ ap (unfold_node (tree_of p.nodes)) c.in-Leaf.is in
    c.as_const.ensures ∙ ap (λ (v : Pool _ _). (g.A.SymLeaf.reads v.base).constant c.in-Leaf.a) c.self.view_is ∙ sym (ap (tree_constant (g.A.SymLeaf.reads p.base).constant) tree)
