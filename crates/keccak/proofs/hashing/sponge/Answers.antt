use Rattle.std.proofs.Common.{◌≡◌, ℕ, List, ◌+◌, ◌-◌, ◌*◌, ◌/◌, ◌≤◌, ◌∙◌, ◌++◌, length, take, drop, refl, ap, arith}
use Rattle.std.proofs.lemmas.List.{take_rest}
use Rattle.keccak.specs.Hashing.{absorbed, first_bytes, padded, padding, sponge}
use Rattle.keccak.proofs.Blocks.{absorbed_none, absorbed_more, absorbed_all}
use Rattle.keccak.proofs.hashing.sponge.Goals as goal

pub loop-index-init : goal.loop-index-init
loop-index-init c = absorbed_none (padded c.args.first c.args.message.now)

pub loop-index-preserved : goal.loop-index-preserved
loop-index-preserved c =
    let i = c.loop-index.index in
    let m = c.args.message.now in
    let inside : 136 * i + 136 ≤ length m = omega arith in
    let width : 136 * i + 136 - 136 * i ≡ 136 = omega arith in
    c.absorb-next.ensures
    ∙ absorbed_more c.args.first i m c.loop-index.state _ inside c.loop-index.invariant (ap (λ (k : ℕ). take k (drop (136 * i) m)) width)

pub returns : goal.returns
unfolding sponge
returns c =
    let first = c.args.first in
    let m = c.args.message.now in
    let whole : ℕ = length m / 136 in
    let all : c.loop-index.index ≡ whole = omega arith in
    let last = c.last_block-last.ensures ∙ ap (λ (rest : List ℕ). rest ++ padding first (length rest)) (take_rest m (136 * whole)) in
    c.first_bytes.ensures
    ∙ ap first_bytes (c.absorb.ensures ∙ absorbed_all first whole m c.loop-index.state _ refl (c.loop-index.invariant ∙ ap (absorbed (padded first m)) all) last)
