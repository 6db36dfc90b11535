use Rattle.std.proofs.Common.{◌≡◌, ◌+◌, ◌∙◌, suc, ap, arith}
use Rattle.std.specs.Prelude.{slice_index}
use Rattle.blake3.specs.Compression.{first_state, after_rounds, round}
use Rattle.blake3.specs.Blocks.{block_of, word_of_round}
use Rattle.blake3.proofs.compression.compress.Goals as goal

pub loop-turn-init : goal.loop-turn-init
unfolding after_rounds
loop-turn-init c = c.first_state-state.ensures

pub loop-turn-preserved : goal.loop-turn-preserved
unfolding after_rounds
loop-turn-preserved c =
    let t = c.loop-turn.turn in
    let s : suc t ≡ t + 1 = omega arith in
    let v = first_state (block_of c.args.chaining.now c.args.message.now c.args.rest.now) in
    c.round-state.ensures
    ∙ ap (λ x. round x (word_of_round c.args.message.now t)) c.loop-turn.invariant
    ∙ ap (after_rounds v (slice_index c.args.message.now)) s
