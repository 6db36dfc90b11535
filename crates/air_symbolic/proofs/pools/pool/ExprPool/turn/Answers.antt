use Rattle.std.proofs.Common.{◌≡◌, ℕ, length, sym, ap, subst, ◌∙◌}
use Rattle.air_field.specs.Degree.{degree_by}
use Rattle.air_symbolic.specs.Weights.{leaf_weight}
use Rattle.air_symbolic.specs.Nodes.{node_degree}
use Rattle.air_symbolic.specs.laws.Nodes.{node_degree-is}
use Rattle.air_symbolic.specs.Pools.{term_at}
use Rattle.air_symbolic.specs.DegreeTables.{capped, AreDegrees}
use Rattle.air_symbolic.proofs.DegreeTables.{more-degrees}
use Rattle.air_symbolic.proofs.pools.pool.ExprPool.turn.Goals as goal

pub returns-clause-degrees : goal.returns-clause-degrees
returns-clause-degrees g c =
    let p = c.args.self.now in
    let w = leaf_weight c.args.weight in
    let table = c.args.table.now.degrees.items in
    let node = c.node-node.result.now in
    let degree = λ (i : ℕ). degree_by w (term_at g.A.SymLeaf.reads p i) in
    let known : AreDegrees degree (length c.deref-2.result.now) c.deref-2.result.now =
    subst (λ t. AreDegrees degree (length t) t) (sym c.deref-2.ensures.value)
    (subst (λ n. AreDegrees degree n table) (sym c.requires.operands.places) c.requires.operands) in
    let leaves = λ (u : _). λ (a : _). degree_by w ((g.A.SymLeaf.reads u).term a) in
    let same : node_degree (leaves c.base.result.now) degree node ≡ degree c.args.id =
    ap (λ u. node_degree (leaves u) degree node) c.base.ensures
    ∙ node_degree-is w (g.A.SymLeaf.reads p.base).term (term_at g.A.SymLeaf.reads p) node
    ∙ sym (ap (degree_by w) c.node-node.ensures.term) in
    more-degrees degree c.args.id table c.push.new.self.items c.degree_of_node-degree.result c.in_ok-push.ensures.items c.requires.operands
    (c.degree_of_node-degree.ensures degree known ∙ ap capped same)
