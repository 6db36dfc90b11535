use Rattle.std.proofs.Common.{◌≡◌, ◌++◌}
use Rattle.std.specs.Prelude.{slice_index}
use Rattle.air_author.specs.Constraints.{asserts_of_first}
use Rattle.air_blake3.specs.Values.{bit_values}
use Rattle.air_blake3.proofs.values.push_words.Given as goal

-- i words were pushed
abbrev pub invariant-loop-i : goal.invariant-loop-i
invariant-loop-i g l = l.values.items ≡ l.initial.values.items ++ asserts_of_first (λ k. bit_values g.F.Field.ring (slice_index l.words k)) l.i
