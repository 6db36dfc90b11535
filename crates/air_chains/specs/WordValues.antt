-- Words of 32 bits as values, of public values or of columns: each by two limbs of 16 bits, the lowest first.
use Rattle.std.specs.Prelude.{◌≡◌, ℕ, ◌+◌, ◌/◌, ◌%◌, ◌^◌, List, [], ◌∷◌, slice_index_or, ⊤}
use Rattle.air_field.specs.Ring.{CommRing, image}

-- the values of words
abbrev pub word_values : {F : Type 0} → CommRing F → List ℕ → List F
word_values R [] = []
word_values R (w ∷ ws) = image R (w % 2 ^ 16) ∷ image R (w / 2 ^ 16) ∷ word_values R ws

-- the values from index `first` on are those of the words; a missing value reads as zero
abbrev pub HoldWords : {F : Type 0} → CommRing F → List F → ℕ → List ℕ → Type 0
HoldWords R values first [] = ⊤
HoldWords R values first (w ∷ ws) =
    (slice_index_or values first R.zero ≡ image R (w % 2 ^ 16))
    × (slice_index_or values (first + 1) R.zero ≡ image R (w / 2 ^ 16))
    × HoldWords R values (first + 2) ws
