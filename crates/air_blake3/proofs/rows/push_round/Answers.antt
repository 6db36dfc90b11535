use Rattle.std.proofs.Common.{◌≡◌, ◌+◌, ◌++◌, ◌∙◌, ap, ap₂, append_assoc}
use Rattle.std.specs.Prelude.{slice_index}
use Rattle.blake3.specs.Compression.{columns_mixed, diagonals, from_diagonals, round}
use Rattle.blake3.specs.Blocks.{word_of_round}
use Rattle.air_blake3.specs.Values.{columns_values, round_values}
use Rattle.air_blake3.proofs.rows.push_round.Goals as goal

pub returns-clause-next : goal.returns-clause-next
unfolding round
returns-clause-next g c =
    let v = c.args.v in
    let n = word_of_round c.args.message.now c.args.turn in
    let columns : c.in_ok-columns.columns ≡ columns_mixed v n =
    c.in_ok-columns.ensures.mixed ∙ ap (λ m. columns_mixed v (slice_index m)) c.eight_words-low.ensures in
    let last : c.in_ok-last.last ≡ columns_mixed (diagonals (columns_mixed v n)) (λ i. n (8 + i)) =
    c.in_ok-last.ensures.mixed ∙ ap₂ (λ x m. columns_mixed x (slice_index m)) (c.diagonals.ensures ∙ ap diagonals columns) c.eight_words-high.ensures in
    c.from_diagonals.ensures ∙ ap from_diagonals last

pub returns-clause-pushed : goal.returns-clause-pushed
unfolding round_values columns_values
returns-clause-pushed g c =
    let R = g.F.Field.ring in
    let v = c.args.v in
    let n = word_of_round c.args.message.now c.args.turn in
    let old = c.args.values.now.items in
    let columns : c.in_ok-columns.columns ≡ columns_mixed v n =
    c.in_ok-columns.ensures.mixed ∙ ap (λ m. columns_mixed v (slice_index m)) c.eight_words-low.ensures in
    let first : c.push_columns.new.values.items ≡ old ++ columns_values R v n =
    c.in_ok-columns.ensures.pushed ∙ ap (λ m. old ++ columns_values R v (slice_index m)) c.eight_words-low.ensures in
    c.in_ok-last.ensures.pushed
    ∙ ap (λ xs. xs ++ columns_values R c.diagonals.result (slice_index c.eight_words-high.result)) first
    ∙ ap₂ (λ x m. (old ++ columns_values R v n) ++ columns_values R x (slice_index m)) (c.diagonals.ensures ∙ ap diagonals columns) c.eight_words-high.ensures
    ∙ append_assoc old (columns_values R v n) (columns_values R (diagonals (columns_mixed v n)) (λ i. n (8 + i)))
