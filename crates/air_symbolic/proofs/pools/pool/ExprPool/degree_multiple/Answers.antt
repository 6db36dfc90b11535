use Rattle.std.proofs.Common.{sym, ap, ◌∙◌}
use Rattle.air_field.specs.Degree.{degree_by, cached_weight}
use Rattle.air_symbolic.specs.Trees.{term_of}
use Rattle.air_symbolic.specs.Pools.{Pool}
use Rattle.air_symbolic.specs.Nodes.{unfold_node, tree_of}
use Rattle.air_symbolic.proofs.pools.pool.ExprPool.degree_multiple.Goals as goal

pub returns-in-Leaf : goal.returns-in-Leaf
returns-in-Leaf g c =
    let p = c.args.self.now in
    let tree = c.node.ensures.tree ∙ ap (unfold_node (tree_of p.nodes)) c.in-Leaf.is in
    c.degree_multiple.ensures
    ∙ ap (λ (v : Pool _ _). degree_by cached_weight ((g.A.SymLeaf.reads v.base).term c.in-Leaf.a)) c.self.view_is
    ∙ sym (ap (λ t. degree_by cached_weight (term_of (g.A.SymLeaf.reads p.base).term t)) tree)
