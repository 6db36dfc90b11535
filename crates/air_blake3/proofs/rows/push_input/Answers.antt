use Rattle.std.proofs.Common.{◌≡◌, ◌++◌, ◌∙◌, ap, ap₂}
use Rattle.std.specs.Prelude.{slice_index}
use Rattle.air_author.specs.Constraints.{asserts_of_first}
use Rattle.blake3.specs.Compression.{diagonals, first_state}
use Rattle.blake3.specs.Blocks.{block_of}
use Rattle.air_blake3.specs.Values.{bit_values, input_values, state_values}
use Rattle.air_blake3.proofs.Pushes.{joined_3, on_ok}
use Rattle.air_blake3.proofs.rows.push_input.Goals as goal

pub returns : goal.returns
unfolding input_values
returns g c =
    let R = g.F.Field.ring in
    let old = c.args.values.now.items in
    let b = block_of c.args.chaining.now c.args.message.now c.args.rest.now in
    let l0 = asserts_of_first (λ i. bit_values R (slice_index c.args.message.now i)) 16 in
    let l1 = asserts_of_first (λ i. bit_values R (slice_index c.args.chaining.now i)) 4 in
    let p2 : c.push_words-2.new.values.items ≡ (old ++ l0) ++ l1 = c.in_ok-push_words-2.ensures ∙ ap (λ ys. ys ++ l1) c.in_ok-push_words.ensures in
    on_ok c.push_state.result
    (λ last.
    last
    ∙ ap₂ (λ ys x. ys ++ state_values R x) p2 (c.diagonals.ensures ∙ ap diagonals c.first_state.ensures)
    ∙ joined_3 old l0 l1 (state_values R (diagonals (first_state b))) l0)
    c.push_state.ensures
