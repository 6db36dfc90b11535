-- The row of a block, as the values of its columns.
use Rattle.std.specs.Prelude.{ℕ, ◌+◌, ◌*◌, ◌/◌, ◌%◌, ◌^◌, ◌<◌, List, [], ◌∷◌, ◌++◌, map}
use Rattle.air_field.specs.Assignment.{RowValues, leaf_value}
use Rattle.air_field.specs.Ring.{CommRing, image}
use Rattle.air_gadgets.specs.Bits.{digits_of}
use Rattle.air_builder.specs.Vanishing.{AllVanish}
use Rattle.air_author.specs.Constraints.{asserts_of_first}
use Rattle.blake3.specs.Compression.{Block, columns_mixed, diagonals, place_in, first_state, after_rounds, compress}
use Rattle.blake3.specs.Blocks.{columns_half}
use Rattle.blake3.specs.declared.words.Quarter.{Quarter}
use Rattle.blake3.specs.declared.words.State.{State}
use Rattle.air_blake3.specs.Row.{compression}

-- the bits of a word, and its limbs
abbrev pub bit_values : {F : Type 0} → CommRing F → ℕ → List F
bit_values R n = map (image R) (digits_of 2 32 n)

abbrev pub limb_values : {F : Type 0} → CommRing F → ℕ → List F
limb_values R n = image R (n % 2 ^ 16) ∷ image R (n / 2 ^ 16) ∷ []

-- the four words of a column of the state, and all sixteen
unfoldable pub quarter_values : {F : Type 0} → CommRing F → Quarter → List F
quarter_values R q = ((limb_values R q.a ++ bit_values R q.b) ++ limb_values R q.c) ++ bit_values R q.d

unfoldable pub state_values : {F : Type 0} → CommRing F → State → List F
state_values R v = ((quarter_values R v.q0 ++ quarter_values R v.q1) ++ quarter_values R v.q2) ++ quarter_values R v.q3

-- the two states of mixed columns, and the four of a round
unfoldable pub columns_values : {F : Type 0} → CommRing F → State → (ℕ → ℕ) → List F
columns_values R v m = state_values R (columns_half v m) ++ state_values R (columns_mixed v m)

unfoldable pub round_values : {F : Type 0} → CommRing F → State → (ℕ → ℕ) → List F
round_values R v m = columns_values R v m ++ columns_values R (diagonals (columns_mixed v m)) (λ i. m (8 + i))

-- four words by their bits, and sixteen
unfoldable pub four_bits : {F : Type 0} → CommRing F → ℕ → ℕ → ℕ → ℕ → List F
four_bits R a b c d = ((bit_values R a ++ bit_values R b) ++ bit_values R c) ++ bit_values R d

unfoldable pub output_values : {F : Type 0} → CommRing F → State → List F
output_values R o =
    ((four_bits R o.q0.a o.q1.a o.q2.a o.q3.a ++ four_bits R o.q0.b o.q1.b o.q2.b o.q3.b)
    ++ four_bits R o.q0.c o.q1.c o.q2.c o.q3.c)
    ++ four_bits R o.q0.d o.q1.d o.q2.d o.q3.d

-- the values before the rounds, and the whole row of a block
unfoldable pub input_values : {F : Type 0} → CommRing F → Block → List F
input_values R b =
    (asserts_of_first (λ i. bit_values R (b.message i)) 16 ++ asserts_of_first (λ i. bit_values R (b.chaining i)) 4)
    ++ state_values R (diagonals (first_state b))

unfoldable pub block_row : {F : Type 0} → CommRing F → Block → List F
block_row R b =
    let v = after_rounds (first_state b) b.message 7 in
    ((input_values R b
    ++ asserts_of_first (λ r. round_values R (after_rounds (first_state b) b.message r) (λ i. b.message (place_in r i))) 7)
    ++ four_bits R v.q0.c v.q1.c v.q2.c v.q3.c)
    ++ output_values R (compress b)

-- the row satisfies all constraints, whatever the other values at the row are
abbrev pub IsCompressionRow : {F : Type 0} → CommRing F → F → List F → Type 0
IsCompressionRow {F} R none row =
    (beside : RowValues F) → AllVanish R (leaf_value none (record beside { current = row })) (compression R)

-- `IsCompressionRow`, over a field of large enough characteristic
abbrev pub SatisfiesAll : {F : Type 0} → CommRing F → F → ℕ → List F → Type 0
SatisfiesAll R none characteristic row = 3 * 2 ^ 16 < characteristic → IsCompressionRow R none row
