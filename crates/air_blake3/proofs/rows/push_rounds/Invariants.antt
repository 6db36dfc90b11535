use Rattle.std.proofs.Common.{◌≡◌, ◌++◌}
use Rattle.std.specs.Prelude.{slice_index}
use Rattle.air_author.specs.Constraints.{asserts_of_first}
use Rattle.blake3.specs.Compression.{after_rounds}
use Rattle.blake3.specs.Blocks.{word_of_round}
use Rattle.air_blake3.specs.Values.{round_values}
use Rattle.air_blake3.proofs.rows.push_rounds.Given as goal

-- the state is the one after `turn` rounds, and the values of these rounds were pushed
abbrev pub invariant-loop-turn : goal.invariant-loop-turn
invariant-loop-turn g l = record {
  now : l.state ≡ after_rounds l.fn.v (slice_index l.message) l.turn;
  pushed : l.values.items ≡ l.initial.values.items ++ asserts_of_first (λ r. round_values g.F.Field.ring (after_rounds l.fn.v (slice_index l.message) r) (word_of_round l.message r)) l.turn;
}
