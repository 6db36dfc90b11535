use Rattle.std.proofs.Common.{◌≡◌, Some, ap, sym, ◌∙◌}
use Rattle.air_symbolic.proofs.pools.node_table.NodeTable.recall.Goals as goal

pub returns-then-eq : goal.returns-then-eq
returns-then-eq g c =
    let same : c.args.node.now ≡ c.get-then-number-len.result.now = c.requires.exact c.get-then-number-len.result.now (sym c.eq.ensures ∙ c.if-eq.true) in
    c.get-then-number-len.ensures ∙ ap (λ n. Some n) (sym same)
