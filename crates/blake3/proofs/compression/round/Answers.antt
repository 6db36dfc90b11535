use Rattle.std.proofs.Common.{◌≡◌, ◌+◌, ◌∙◌, ap, ap₂}
use Rattle.std.specs.Prelude.{slice_index}
use Rattle.blake3.specs.Compression.{columns_mixed, diagonals, from_diagonals, mix, round}
use Rattle.blake3.specs.Blocks.{columns_half, columns_whole, word_of_round}
use Rattle.blake3.proofs.compression.round.Goals as goal

pub returns : goal.returns
unfolding mix round
returns c =
    let n = word_of_round c.args.message.now c.args.turn in
    let columns : c.columns_whole-columns.result ≡ columns_mixed c.args.v n =
    c.columns_whole-columns.ensures
    ∙ ap₂ (λ x m. columns_whole x (slice_index m)) (c.columns_half.ensures ∙ ap (λ m. columns_half c.args.v (slice_index m)) c.eight_words-low.ensures) c.eight_words-low.ensures in
    let half : c.columns_half-half.result ≡ columns_half (diagonals (columns_mixed c.args.v n)) (λ i. n (8 + i)) =
    c.columns_half-half.ensures
    ∙ ap₂ (λ x m. columns_half x (slice_index m)) (c.diagonals.ensures ∙ ap diagonals columns) c.eight_words-high.ensures in
    c.from_diagonals.ensures
    ∙ ap from_diagonals (c.columns_whole.ensures ∙ ap₂ (λ x m. columns_whole x (slice_index m)) half c.eight_words-high.ensures)
