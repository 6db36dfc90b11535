-- Words of two limbs, as terms.
use Rattle.std.specs.Prelude.{ℕ, ◌+◌, List, ◌++◌, map}
use Rattle.air_field.specs.Ring.{CommRing}
use Rattle.air_field.specs.Term.{Term}
use Rattle.air_builder.specs.Assertion.{Assertion, Base}
use Rattle.air_builder.specs.Notation.{current}
use Rattle.air_gadgets.specs.Words.{Limbs}
use Rattle.air_gadgets.specs.BitTerms.{has_bits}

abbrev pub limbs : {A : Type 0} → A → A → Limbs A
limbs low high = record { low = low; high = high }

-- each term is zero, with f around it
abbrev pub all_vanish : {F : Type 0} → (Term F → Term F) → List (Term F) → List (Assertion F)
all_vanish f ts = map (λ t. Base (f t)) ts

-- The word whose lower limb is in this column, followed by the 16 columns of its bits, the upper limb and the 16 columns of
-- its bits.
abbrev pub word_at : {F : Type 0} → ℕ → Limbs (Term F)
word_at first = limbs (current first) (current (first + 17))

-- both limbs of the word have the bits in the columns after them, with f around each term
unfoldable pub word_bits : {F : Type 0} → CommRing F → ℕ → (Term F → Term F) → List (Assertion F)
word_bits R first f =
    has_bits R (current first) (first + 1) 16 f ++ has_bits R (current (first + 17)) (first + 18) 16 f
