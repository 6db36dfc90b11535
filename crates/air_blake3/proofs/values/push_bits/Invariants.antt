use Rattle.std.proofs.Common.{◌≡◌, ◌-◌, ◌++◌}
use Rattle.air_blake3.specs.Values.{bit_values}
use Rattle.air_blake3.proofs.Pushes.{with_bits}
use Rattle.air_blake3.proofs.values.push_bits.Given as goal

-- the bits so far and the remaining ones are all bits
abbrev pub invariant-loop-done : goal.invariant-loop-done
invariant-loop-done g l = with_bits g.F.Field.ring l.values.items (32 - l.done) l.rest ≡ l.initial.values.items ++ bit_values g.F.Field.ring l.word
