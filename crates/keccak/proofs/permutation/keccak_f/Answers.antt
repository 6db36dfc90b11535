use Rattle.std.proofs.Common.{◌≡◌, ◌+◌, ◌∙◌, suc, refl, ap, arith}
use Rattle.keccak.specs.Permutation.{after_rounds, keccak_f, round}
use Rattle.keccak.proofs.permutation.keccak_f.Goals as goal

pub loop-index-init : goal.loop-index-init
unfolding after_rounds
loop-index-init c = refl

pub loop-index-preserved : goal.loop-index-preserved
unfolding after_rounds
loop-index-preserved c =
    let i = c.loop-index.index in
    let next : suc i ≡ i + 1 = omega arith in
    c.round-next.ensures ∙ ap (λ a. round a i) c.loop-index.invariant ∙ ap (after_rounds c.args.state) next

pub returns : goal.returns
unfolding keccak_f
returns c =
    let all : c.loop-index.index ≡ 24 = omega arith in
    c.loop-index.invariant ∙ ap (after_rounds c.args.state) all
