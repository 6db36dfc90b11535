use Rattle.std.proofs.Common.{◌∙◌}
use Rattle.std.specs.Prelude.{slice_index}
use Rattle.air_blake3.specs.Values.{bit_values}
use Rattle.air_blake3.proofs.Pushes.{first_more}
use Rattle.air_blake3.proofs.values.push_words.Goals as goal

pub loop-i-preserved : goal.loop-i-preserved
loop-i-preserved g c =
    c.in_ok-push_bits.ensures
    ∙ first_more (λ k. bit_values g.F.Field.ring (slice_index c.args.words.now k)) c.args.values.now.items c.loop-i.values.items c.loop-i.i c.loop-i.invariant
