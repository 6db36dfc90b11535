use Rattle.std.proofs.Common.{◌≡◌, ℕ, ◌||◌, nat_eq, List, reverse, ap, subst, sym, ◌∙◌}
use Rattle.air_symbolic.specs.Nodes.{operands}
use Rattle.air_print.specs.Reading.{is_in, Reads}
use Rattle.air_print.proofs.Walks.{insert-seen, id_exact, all-below, above-less, no-elements, false_true, waiting-here, last-waits, walk-start, walk-more, walk-end, new_below}
use Rattle.air_print.proofs.reading.reads.Goals as goal

pub loop-id-init : goal.loop-id-init
loop-id-init g c =
    let root = c.args.root in
    walk-start c.args.pool.now.nodes root c.insert.new.self.keys c.new-numbers.result.items c.requires.here
    (λ i. insert-seen _ id_exact root c.new-waiting.result.keys c.insert.new.self.keys c.in_ok-insert.ensures.keys i ∙ ap (λ (xs : List ℕ). is_in xs i || nat_eq i root) c.new-waiting.ensures.empty)
    c.new-numbers.ensures.items

pub node-node-requires-clause-here : goal.node-node-requires-clause-here
node-node-requires-clause-here g c =
    let ns = c.args.pool.now.nodes in
    let old = c.loop-id.waiting.keys in
    waiting-here ns c.args.root old c.loop-id.numbers.items c.in-Some.id c.loop-id.invariant
    (last-waits ns c.args.root c.pop_last.new.self.keys old c.in-Some.id c.in-Some.ensures.removal)

pub loop-id-smaller : goal.loop-id-smaller
loop-id-smaller g c =
    let n = c.node-node.result.now in
    let old = c.loop-id.waiting.keys in
    let rest = c.pop_last.new.self.keys in
    let new = c.insert_all.new.set.keys in
    let id = c.in-Some.id in
    let seen : (i : ℕ) → is_in new i ≡ is_in rest i || is_in (operands n) i =
    λ i. c.in_ok-insert_all.ensures i ∙ ap (λ (xs : List ℕ). is_in rest i || is_in xs i) (c.as_slice.ensures ∙ c.operands.ensures) in
    above-less rest old new id c.in-Some.ensures.removal
    (new_below c.args.pool.now.nodes c.args.root rest old new c.loop-id.numbers.items c.push_read.new.numbers.items id n c.loop-id.invariant c.in-Some.ensures.removal (all-below rest id c.in-Some.ensures.all_below) c.node-node.ensures seen c.in_ok-push_read.ensures)

pub loop-id-preserved : goal.loop-id-preserved
loop-id-preserved g c =
    let n = c.node-node.result.now in
    let old = c.loop-id.waiting.keys in
    let rest = c.pop_last.new.self.keys in
    let new = c.insert_all.new.set.keys in
    let id = c.in-Some.id in
    let seen : (i : ℕ) → is_in new i ≡ is_in rest i || is_in (operands n) i =
    λ i. c.in_ok-insert_all.ensures i ∙ ap (λ (xs : List ℕ). is_in rest i || is_in xs i) (c.as_slice.ensures ∙ c.operands.ensures) in
    walk-more c.args.pool.now.nodes c.args.root rest old new c.loop-id.numbers.items c.push_read.new.numbers.items id n c.loop-id.invariant c.in-Some.ensures.removal (all-below rest id c.in-Some.ensures.all_below) c.node-node.ensures seen c.in_ok-push_read.ensures

pub returns : goal.returns
returns g c =
    let ns = c.args.pool.now.nodes in
    let root = c.args.root in
    subst (λ (xs : List ℕ). Reads ns root xs) (sym c.reverse.ensures.items)
    (walk-end ns root c.loop-id.waiting.keys c.loop-id.numbers.items c.loop-id.invariant
    (no-elements c.loop-id.waiting.keys (λ lt. false_true (c.in_default.ensures.variant.1 lt))))
