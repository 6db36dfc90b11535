-- The constraints of a path: one node a row, from the leaf to the root.
use Rattle.std.specs.Prelude.{ℕ, ◌+◌, ◌*◌, ◌/◌, ◌%◌, ◌^◌, List, [], ◌∷◌, ◌++◌, slice_index}
use Rattle.air_field.specs.Algebra.{bool_check_term}
use Rattle.air_field.specs.Ring.{CommRing}
use Rattle.air_field.specs.Term.{Term}
use Rattle.air_builder.specs.Assertion.{Assertion}
use Rattle.air_builder.specs.Notation.{current, next, public, first_row, last_row, transition, ◌⊕◌, ◌⊖◌, ◌⊙◌, is_zero}
use Rattle.air_author.specs.Kinds.{number, double, each_below}
use Rattle.air_gadgets.specs.BitTerms.{packed_bits}
use Rattle.air_blake3.specs.Row.{before_round, chaining_column, compression}

-- The columns after those of the compression: whether the node is the right child; the index of the node in its level;
-- and the first of the sixteen limbs of the node's words.
abbrev pub side_column : ℕ
side_column = 9168

abbrev pub index_column : ℕ
index_column = 9169

abbrev pub node_column : ℕ
node_column = 9170

-- The words that are the same on each row, by the columns where their bits begin: the chaining value, the counter, and
-- the length.
abbrev pub fixed_columns : List ℕ
fixed_columns =
    let v = before_round 0 in
    chaining_column 0 ∷ chaining_column 1 ∷ chaining_column 2 ∷ chaining_column 3 ∷ v.q0.b ∷ v.q1.b ∷ v.q2.b ∷ v.q3.b ∷
    v.q0.d ∷ v.q1.d ∷ v.q2.d ∷ []

abbrev pub fixed_words : List ℕ
fixed_words =
    0x6A09E667 ∷ 0xBB67AE85 ∷ 0x3C6EF372 ∷ 0xA54FF53A ∷ 0x510E527F ∷ 0x9B05688C ∷ 0x1F83D9AB ∷ 0x5BE0CD19 ∷
    0 ∷ 0 ∷ 64 ∷ []

-- where the bits of the flags begin
abbrev pub flags_column : ℕ
flags_column = (before_round 0).q3.d

-- limb k of the left child, of the right child, and of the output
abbrev pub left_limb : {F : Type 0} → CommRing F → ℕ → Term F
left_limb R k = packed_bits R (16 * k) 16

abbrev pub right_limb : {F : Type 0} → CommRing F → ℕ → Term F
right_limb R k = packed_bits R (256 + 16 * k) 16

abbrev pub output_limb : {F : Type 0} → CommRing F → ℕ → Term F
output_limb R k = packed_bits R (8656 + 16 * k) 16

-- Limb k of the node is that of the child on its side. On the first row it is public value k. The next row's is limb k of
-- the output; after the last row this is public value 16 + k. Here f is put around each term.
unfoldable pub limb_asserts : {F : Type 0} → CommRing F → (Term F → Term F) → ℕ → List (Assertion F)
limb_asserts R f k =
    is_zero (f (current (node_column + k) ⊖ (left_limb R k ⊕ current side_column ⊙ (right_limb R k ⊖ left_limb R k)))) ++
    (is_zero (f (first_row ⊙ (public k ⊖ current (node_column + k)))) ++
    (is_zero (f (transition ⊙ (next (node_column + k) ⊖ output_limb R k))) ++
    is_zero (f (last_row ⊙ (public (16 + k) ⊖ output_limb R k)))))

-- The side is a bit. The index is public value 32 on the first row, twice that of the next row plus the side, and the side
-- on the last row.
unfoldable pub index_asserts : {F : Type 0} → CommRing F → (Term F → Term F) → List (Assertion F)
index_asserts R f =
    is_zero (f (bool_check_term R.one (current side_column))) ++
    (is_zero (f (first_row ⊙ (public 32 ⊖ current index_column))) ++
    (is_zero (f (transition ⊙ (current index_column ⊖ (current side_column ⊕ double (next index_column))))) ++
    is_zero (f (last_row ⊙ (current index_column ⊖ current side_column)))))

-- a word of 32 bits by its limbs
unfoldable pub fixed_asserts : {F : Type 0} → CommRing F → (Term F → Term F) → ℕ → List (Assertion F)
fixed_asserts R f i =
    is_zero (f (packed_bits R (slice_index fixed_columns i) 16 ⊖ number R (slice_index fixed_words i % 2 ^ 16))) ++
    is_zero (f (packed_bits R (slice_index fixed_columns i + 16) 16 ⊖ number R (slice_index fixed_words i / 2 ^ 16)))

-- the flags are 4, and 8 more on the last row
unfoldable pub flags_asserts : {F : Type 0} → CommRing F → (Term F → Term F) → List (Assertion F)
flags_asserts R f =
    is_zero (f (packed_bits R flags_column 16 ⊖ (number R 4 ⊕ number R 8 ⊙ last_row))) ++
    is_zero (f (packed_bits R (flags_column + 16) 16 ⊖ number R 0))

-- what is asserted beside the compression
abbrev pub beside_compression : {F : Type 0} → CommRing F → List (Assertion F)
beside_compression R =
    each_below 16 (limb_asserts R (λ t. t)) ++
    (index_asserts R (λ t. t) ++ (each_below 11 (fixed_asserts R (λ t. t)) ++ flags_asserts R (λ t. t)))

-- one node a row
abbrev pub path : {F : Type 0} → CommRing F → List (Assertion F)
path R = compression R ++ beside_compression R
