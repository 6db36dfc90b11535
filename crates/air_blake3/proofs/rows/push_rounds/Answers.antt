use Rattle.std.proofs.Common.{◌≡◌, ◌+◌, ◌++◌, ◌∙◌, suc, refl, ap, arith}
use Rattle.std.specs.Prelude.{slice_index}
use Rattle.blake3.specs.Compression.{round, after_rounds}
use Rattle.blake3.specs.Blocks.{word_of_round}
use Rattle.air_blake3.specs.Values.{round_values}
use Rattle.air_blake3.proofs.Pushes.{first_more, first_none}
use Rattle.air_blake3.proofs.rows.push_rounds.Goals as goal

pub loop-turn-init : goal.loop-turn-init
unfolding after_rounds
loop-turn-init g c = record {
  now = refl;
  pushed = first_none (λ r. round_values g.F.Field.ring (after_rounds c.args.v (slice_index c.args.message.now) r) (word_of_round c.args.message.now r)) c.args.values.now.items;
}

pub loop-turn-preserved : goal.loop-turn-preserved
unfolding after_rounds
loop-turn-preserved g c =
    let R = g.F.Field.ring in
    let v = c.args.v in
    let m = c.args.message.now in
    let t = c.loop-turn.turn in
    let s : suc t ≡ t + 1 = omega arith in
    record {
      now = c.in_ok-state.ensures.next ∙ ap (λ x. round x (word_of_round m t)) c.loop-turn.invariant.now ∙ ap (after_rounds v (slice_index m)) s;
      pushed = c.in_ok-state.ensures.pushed
          ∙ ap (λ x. c.loop-turn.values.items ++ round_values R x (word_of_round m t)) c.loop-turn.invariant.now
          ∙ first_more (λ r. round_values R (after_rounds v (slice_index m) r) (word_of_round m r)) c.args.values.now.items c.loop-turn.values.items t c.loop-turn.invariant.pushed;
    }
