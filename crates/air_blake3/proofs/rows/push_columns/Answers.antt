use Rattle.std.proofs.Common.{◌++◌, ◌∙◌, ap, ap₂, append_assoc}
use Rattle.std.specs.Prelude.{slice_index}
use Rattle.blake3.specs.Compression.{columns_mixed, mix}
use Rattle.blake3.specs.Blocks.{columns_half, columns_whole}
use Rattle.air_blake3.specs.Values.{columns_values, state_values}
use Rattle.air_blake3.proofs.rows.push_columns.Goals as goal

pub returns-clause-mixed : goal.returns-clause-mixed
unfolding mix
returns-clause-mixed g c = c.columns_whole-whole.ensures ∙ ap (λ x. columns_whole x (slice_index c.args.m.now)) c.columns_half-half.ensures

pub returns-clause-pushed : goal.returns-clause-pushed
unfolding columns_values
returns-clause-pushed g c =
    let R = g.F.Field.ring in
    let n = slice_index c.args.m.now in
    c.in_ok-push_state-2.ensures
    ∙ ap₂ (λ xs y. xs ++ state_values R y) (c.in_ok-push_state.ensures ∙ ap (λ y. c.args.values.now.items ++ state_values R y) c.columns_half-half.ensures) (returns-clause-mixed g c)
    ∙ append_assoc c.args.values.now.items (state_values R (columns_half c.args.v n)) (state_values R (columns_mixed c.args.v n))
