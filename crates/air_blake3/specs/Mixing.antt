-- The assertions about four mixed words.
use Rattle.std.specs.Prelude.{ℕ, List, ◌++◌}
use Rattle.air_field.specs.Ring.{CommRing}
use Rattle.air_field.specs.Term.{Term}
use Rattle.air_builder.specs.Assertion.{Assertion}
use Rattle.air_gadgets.specs.Gadgets.{add2_asserts, add3_asserts, xor_asserts}
use Rattle.air_blake3.specs.Words.{QuarterTerms, packed_limbs, map_terms}

-- u is half of G on t, with its two rotations and a word of the message
abbrev pub half_mix_asserts : {F : Type 0} → CommRing F → ℕ → ℕ → QuarterTerms F → List (Term F) → QuarterTerms F → List (Assertion F)
half_mix_asserts R j k t m u =
    add3_asserts R u.a t.a (packed_limbs R t.b) (packed_limbs R m) ++
    (xor_asserts R u.a t.d u.d j ++
    (add2_asserts R u.c t.c (packed_limbs R u.d) ++
    xor_asserts R u.c t.b u.b k))

-- v is G on t, with u in between; f is applied to each term
unfoldable pub mix_asserts : {F : Type 0} → CommRing F → (Term F → Term F) → QuarterTerms F → List (Term F) → List (Term F) → QuarterTerms F → QuarterTerms F → List (Assertion F)
mix_asserts R f t m n u v = map_terms f (half_mix_asserts R 16 12 t m u) ++ map_terms f (half_mix_asserts R 8 7 u n v)
