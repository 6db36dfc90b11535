use Rattle.std.proofs.Common.{◌≡◌, ◌<◌, ◌++◌, ℕ}
use Rattle.air_author.specs.Constraints.{asserts_of_first}
use Rattle.blake3.specs.Sizes.{AreBlockWords}
use Rattle.air_blake3.specs.Traces.{block_for, block_in}
use Rattle.air_blake3.specs.Values.{block_row}
use Rattle.air_blake3.proofs.traces.push_rows.Given as goal

-- `row` rows were pushed, of blocks of words below 2^32
abbrev pub invariant-loop-row : goal.invariant-loop-row
invariant-loop-row g l = record {
  pushed : l.values.items ≡ l.initial.values.items ++ asserts_of_first (λ i. block_row g.F.Field.ring (block_in (block_for l.blocks i))) l.row;
  words : (i : ℕ) → i < l.row → AreBlockWords (block_in (block_for l.blocks i));
}
