use Rattle.std.proofs.Common.{◌≡◌, ◌++◌, ◌∙◌, ℕ, List, ap, ap₂}
use Rattle.std.specs.Prelude.{slice_index}
use Rattle.air_field.specs.Ring.{CommRing}
use Rattle.air_author.specs.Constraints.{asserts_of_first}
use Rattle.blake3.specs.Compression.{Block, first_state, after_rounds, outputs}
use Rattle.blake3.specs.Blocks.{word_of_round, block_of}
use Rattle.blake3.specs.declared.words.State.{State}
use Rattle.air_blake3.specs.Values.{block_row, four_bits, input_values, output_values, round_values}
use Rattle.air_blake3.proofs.Pushes.{joined_4, on_any, on_ok}
use Rattle.air_blake3.proofs.rows.push_row.Goals as goal

-- the values of the rounds, from a first state
abbrev rounds_of : {F : Type 0} → CommRing F → List ℕ → State → List F
rounds_of R message v = asserts_of_first (λ r. round_values R (after_rounds v (slice_index message) r) (word_of_round message r)) 7

pub returns-clause-pushed : goal.returns-clause-pushed
unfolding block_row
returns-clause-pushed g c =
    let R = g.F.Field.ring in
    let old = c.args.values.now.items in
    let h = slice_index c.args.chaining.now in
    let m = slice_index c.args.message.now in
    let b : Block = block_of c.args.chaining.now c.args.message.now c.args.rest.now in
    let x = first_state b in
    let v = after_rounds x m 7 in
    let l0 = input_values R b in
    let l1 = rounds_of R c.args.message.now x in
    let l2 = four_bits R v.q0.c v.q1.c v.q2.c v.q3.c in
    let last : c.in_ok-last.last ≡ v = c.in_ok-last.ensures.last ∙ ap (λ y. after_rounds y m 7) c.first_state.ensures in
    let p2 = c.in_ok-last.ensures.pushed ∙ ap₂ (λ ys y. ys ++ rounds_of R c.args.message.now y) c.in_ok-push_input.ensures c.first_state.ensures in
    let p3 = c.in_ok-push_four.ensures ∙ ap₂ (λ ys w. ys ++ four_bits R w.q0.c w.q1.c w.q2.c w.q3.c) p2 last in
    on_ok c.push_output.result
    (λ out.
    out
    ∙ ap₂ (λ ys o. ys ++ output_values R o) p3 (c.outputs.ensures ∙ ap (λ w. outputs w h) last)
    ∙ joined_4 old l0 l1 l2 (output_values R (outputs v h)))
    c.push_output.ensures

pub returns-clause-words : goal.returns-clause-words
returns-clause-words g c = on_any c.push_output.result (record {
  chaining = c.fits-chaining;
  message = c.fits-message;
  counter_low = c.fits-rest 0;
  counter_high = c.fits-rest 1;
  length = c.fits-rest 2;
  flags = c.fits-rest 3;
})
