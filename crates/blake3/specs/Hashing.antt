-- The hash of a message of one chunk, at most 1,024 bytes.
use Rattle.std.specs.Prelude.{ℕ, zero, suc, ◌+◌, ◌-◌, ◌*◌, ◌/◌, ◌^◌, ◌==◌, List, [], ◌∷◌, length, slice_index_or, if◌then◌else◌}
use Rattle.blake3.specs.Compression.{Block, compress}
use Rattle.blake3.specs.Blocks.{block_of}
use Rattle.blake3.specs.declared.words.State.{State}

-- the chaining value of the first block
abbrev pub start_words : List ℕ
start_words =
    0x6A09E667 ∷ 0xBB67AE85 ∷ 0x3C6EF372 ∷ 0xA54FF53A ∷
    0x510E527F ∷ 0x9B05688C ∷ 0x1F83D9AB ∷ 0x5BE0CD19 ∷ []

-- the first eight words of the output: the next chaining value, or the digest
abbrev pub first_words : State → List ℕ
first_words v = v.q0.a ∷ v.q1.a ∷ v.q2.a ∷ v.q3.a ∷ v.q0.b ∷ v.q1.b ∷ v.q2.b ∷ v.q3.b ∷ []

-- the byte at an index, zero past the end; four bytes as a little-endian word; and the sixteen words of a block
abbrev pub byte_at : List ℕ → ℕ → ℕ
byte_at bytes i = slice_index_or bytes i 0

abbrev pub word_of_bytes : List ℕ → ℕ → ℕ
word_of_bytes bytes i =
    byte_at bytes i + 2 ^ 8 * byte_at bytes (i + 1) + 2 ^ 16 * byte_at bytes (i + 2) + 2 ^ 24 * byte_at bytes (i + 3)

abbrev pub words_at : List ℕ → ℕ → List ℕ
words_at bytes i =
    word_of_bytes bytes (i + 0) ∷ word_of_bytes bytes (i + 4) ∷ word_of_bytes bytes (i + 8) ∷ word_of_bytes bytes (i + 12) ∷
    word_of_bytes bytes (i + 16) ∷ word_of_bytes bytes (i + 20) ∷ word_of_bytes bytes (i + 24) ∷ word_of_bytes bytes (i + 28) ∷
    word_of_bytes bytes (i + 32) ∷ word_of_bytes bytes (i + 36) ∷ word_of_bytes bytes (i + 40) ∷ word_of_bytes bytes (i + 44) ∷
    word_of_bytes bytes (i + 48) ∷ word_of_bytes bytes (i + 52) ∷ word_of_bytes bytes (i + 56) ∷ word_of_bytes bytes (i + 60) ∷ []

-- the number of 64-byte blocks of n bytes, at least one
abbrev pub block_count : ℕ → ℕ
block_count n = (n - 1) / 64 + 1

-- the number of bytes in block k of n bytes: 64, or fewer in the last block
abbrev pub block_length : ℕ → ℕ → ℕ
block_length n k = if suc k == block_count n then n - 64 * k else 64

-- 1 for the first block; and for the last one, 2 for the end of the chunk and 8 for the root
abbrev pub block_flags : ℕ → ℕ → ℕ
block_flags n k = (if k == 0 then 1 else 0) + (if suc k == block_count n then 10 else 0)

-- block k of a message, with its chaining value
abbrev pub block_at : List ℕ → ℕ → List ℕ → Block
block_at bytes k chaining =
    block_of chaining (words_at bytes (64 * k)) (0 ∷ 0 ∷ block_length (length bytes) k ∷ block_flags (length bytes) k ∷ [])

-- the chaining value after k blocks
unfoldable pub chaining_value_after : List ℕ → ℕ → List ℕ
chaining_value_after bytes zero = start_words
chaining_value_after bytes (suc k) = first_words (compress (block_at bytes k (chaining_value_after bytes k)))

-- the digest: eight words
abbrev pub hash : List ℕ → List ℕ
hash bytes = chaining_value_after bytes (block_count (length bytes))
