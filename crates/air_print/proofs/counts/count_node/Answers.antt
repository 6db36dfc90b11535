use Rattle.std.proofs.Common.{ℕ, ◌+◌, ◌<◌, ◌==◌, length, All, sym, ap, subst, ◌∙◌, arith}
use Rattle.std.specs.List.{count_by}
use Rattle.air_print.specs.Names.{places_at}
use Rattle.air_print.proofs.CountLemmas.{AreCounted-same, mark-own, places-marked}
use Rattle.air_print.proofs.counts.count_node.Goals as goal

pub node-requires-clause-here : goal.node-requires-clause-here
node-requires-clause-here g c = (mark-own (length c.args.pool.now.nodes) c.args.marks.now c.args.number _ c.in-Some.id c.requires.marks c.requires.here c.in-Some.is).1

pub count_each-requires : goal.count_each-requires
count_each-requires g c =
    let own = mark-own (length c.args.pool.now.nodes) c.args.marks.now c.args.number _ c.in-Some.id c.requires.marks c.requires.here c.in-Some.is in
    subst (λ xs. All (λ x. x < length c.args.counts.now) xs) (sym (c.as_slice.ensures ∙ c.operands.ensures))
    (λ i d b. let low = c.node.ensures.below i d b in omega (arith, low, own.1, c.requires.places))

pub returns-in-Some : goal.returns-in-Some
returns-in-Some g c =
    let ns = c.args.pool.now.nodes in
    let marks = c.args.marks.now in
    let k = c.args.number in
    let id = c.in-Some.id in
    let n = c.node.result.now in
    let own = mark-own (length ns) marks k _ id c.requires.marks c.requires.here c.in-Some.is in
    let used = c.as_slice.ensures ∙ c.operands.ensures in
    λ (f : ℕ → ℕ) h.
    AreCounted-same _ (λ i. f i + places_at ns marks i k) c.count_each.new.counts
    (λ i. ap (λ xs. f i + count_by (λ x. x == i) xs) used ∙ ap (λ q. f i + q) (sym (places-marked ns marks i k id n own.2 own.0 c.node.ensures.node)))
    (c.count_each.ensures f h)
