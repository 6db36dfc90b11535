-- The xor of a word and a rotated word, both in columns of bits.
use Rattle.std.specs.Prelude.{ℕ, ◌+◌, ◌-◌, ◌%◌, List, ◌++◌}
use Rattle.air_field.specs.Ring.{CommRing}
use Rattle.air_field.specs.Term.{Term}
use Rattle.air_field.specs.Algebra.{xor_term}
use Rattle.air_gadgets.specs.Packing.{packed_term}
use Rattle.air_builder.specs.Assertion.{Assertion}
use Rattle.air_builder.specs.Notation.{◌⊖◌, is_zero}
use Rattle.air_gadgets.specs.Words.{Limbs}
use Rattle.air_gadgets.specs.BitTerms.{columns_from, first_terms, bits_asserts}

-- bit i of b xor c rotated to the left by `shift`; the bits of each are 32 columns, from columns b and c on
abbrev pub xor_at : {F : Type 0} → ℕ → ℕ → ℕ → ℕ → Term F
xor_at b c shift i = xor_term (columns_from b i) (columns_from c ((i + 32 - shift) % 32))

-- 16 of these bits, packed
abbrev pub xor_half : {F : Type 0} → CommRing F → ℕ → ℕ → ℕ → ℕ → Term F
xor_half R b c shift from = packed_term R.zero (first_terms (λ i. xor_at b c shift (from + i)) 16)

-- the bits of c are zero or one, and a is the xor, with f around each term
abbrev pub xor_shift_asserts : {F : Type 0} → CommRing F → Limbs (Term F) → ℕ → ℕ → ℕ → (Term F → Term F) → List (Assertion F)
xor_shift_asserts R a b c shift f =
    bits_asserts R c 32 f
    ++ (is_zero (f (a.low ⊖ xor_half R b c shift 0))
    ++ is_zero (f (a.high ⊖ xor_half R b c shift 16)))
