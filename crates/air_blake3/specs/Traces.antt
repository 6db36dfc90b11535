-- A whole trace of blocks.
use Rattle.std.specs.Prelude.{◌≡◌, ℕ, ◌-◌, ◌*◌, ◌^◌, ◌<◌, ◌≤◌, min, List, length, replicate, slice_get, slice_index, slice_index_or, Some}
use Rattle.std.specs.List.{All}
use Rattle.std.specs.Int.{IsNextPowerOfTwo}
use Rattle.air_field.specs.Grid.{Grid}
use Rattle.air_field.specs.Ring.{CommRing}
use Rattle.blake3.specs.Compression.{Block}
use Rattle.air_blake3.specs.Values.{block_row, IsCompressionRow}
use Rattle.air_blake3.specs.declared.blocks.InputBlock.{InputBlock}
use Rattle.air_blake3.specs.declared.traces.TraceError.{TraceError}
use Rattle.air_blake3.specs.declared.traces.TraceError.TheVariants.{Memory, TooManyRows}

-- an `InputBlock` of the code as a `Block` of the definition
abbrev pub block_in : InputBlock → Block
block_in b = record {
  chaining = slice_index b.chaining;
  message = slice_index b.message;
  counter_low = b.counter_low;
  counter_high = b.counter_high;
  length = b.length;
  flags = b.flags;
}

-- the block whose words are all zero
abbrev pub zero_block : InputBlock
zero_block = record {
  chaining = replicate 8 0;
  message = replicate 16 0;
  counter_low = 0;
  counter_high = 0;
  length = 0;
  flags = 0;
}

-- the block of a row: rows past the last block repeat it; without any block, the zero block
abbrev pub block_for : List InputBlock → ℕ → InputBlock
block_for blocks row = slice_index_or blocks (min row (length blocks - 1)) zero_block

-- each row holds its block
abbrev pub HoldBlocks : {F : Type 0} → CommRing F → List InputBlock → Grid F → Type 0
HoldBlocks R blocks main =
    (row : ℕ) → row < length main.rows → slice_get main.rows row ≡ Some (block_row R (block_in (block_for blocks row)))

-- each row satisfies all constraints, whatever the other values at the row are
abbrev pub AreCompressionRows : {F : Type 0} → CommRing F → F → Grid F → Type 0
AreCompressionRows R none main = All (IsCompressionRow R none) main.rows

-- `AreCompressionRows`, over a field of large enough characteristic
abbrev pub SatisfyAll : {F : Type 0} → CommRing F → F → ℕ → Grid F → Type 0
SatisfyAll R none characteristic main = 3 * 2 ^ 16 < characteristic → AreCompressionRows R none main

-- the trace of this many blocks, padded to a power of two of rows, has too many values for `usize`
abbrev pub IsTooMany : ℕ → Type 0
IsTooMany blocks = (rows : ℕ) × IsNextPowerOfTwo blocks rows × (2 ^ 64 ≤ rows * 9168)

-- its number of values fits `usize`
abbrev pub IsCountable : ℕ → Type 0
IsCountable blocks = (rows : ℕ) × IsNextPowerOfTwo blocks rows × (rows * 9168 < 2 ^ 64)

-- the errors of making it: too many values, or else out of memory
abbrev pub RefusesTrace : ℕ → TraceError → Type 0
RefusesTrace blocks TooManyRows = IsTooMany blocks
RefusesTrace blocks Memory = IsCountable blocks
