-- Words as whole numbers.
use Rattle.std.specs.Prelude.{◌≡◌, ℕ, ◌<◌, ◌^◌, List}
use Rattle.air_field.specs.Ring.{CommRing, image}
use Rattle.std.specs.Str.Parse.{IsNumeral, digits_value, without_leading_plus}

-- the word is a decimal whole number that fits 64 bits; a leading plus is allowed
abbrev pub IsNumber : List ℕ → Type 0
IsNumber word = IsNumeral 10 (without_leading_plus word) × (digits_value 10 (without_leading_plus word) < 2 ^ 64)

-- the number of such a word
abbrev pub decimal_number : List ℕ → ℕ
decimal_number word = digits_value 10 (without_leading_plus word)

-- the word spells the number n
abbrev pub SpellsNumber : ℕ → List ℕ → Type 0
SpellsNumber n word = IsNumber word × (n ≡ decimal_number word)

-- the word is a whole number, and x is its image in the field
abbrev pub SpellsElement : {F : Type 0} → CommRing F → F → List ℕ → Type 0
SpellsElement r x word = IsNumber word × (x ≡ image r (decimal_number word))
