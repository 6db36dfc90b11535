-- Texts spelled as words, letter by letter. A letter is given by its code.
use Rattle.std.specs.Prelude.{◌≡◌, ◌≢◌, ◌⊎◌, ℕ, List, [], ◌∷◌, Option, Some, None, codes, ◌==◌, if◌then◌else◌, encode_utf8, encode_utf8_all, ◌++◌, map, decimal}
use Rattle.std.specs.List.{AllZip, concat, join_with_byte}
use Rattle.std.specs.Str.{chars}

-- the letter that `\c` spells: s is a space, n and r end a line, t is a tab, z is zero, and \ is itself
abbrev pub escaped_letter : ℕ → Option ℕ
escaped_letter c =
    if c == 115 then Some 32 else if c == 110 then Some 10 else if c == 114 then Some 13
    else if c == 116 then Some 9 else if c == 122 then Some 0 else if c == 92 then Some 92 else None

-- a piece is one letter other than a backslash, which spells itself, or a backslash and a letter with a meaning
abbrev pub SpellsLetter : List ℕ → ℕ → Type 0
SpellsLetter piece letter = ((piece ≡ letter ∷ []) × (letter ≢ 92))
    ⊎ ((c : ℕ) × (piece ≡ 92 ∷ c ∷ []) × (escaped_letter c ≡ Some letter))

-- the letters of the word are pieces, one for each letter of the text
pub record SpellsText (word text : List ℕ) : Type 0 where
  pub pieces : List (List ℕ)
  pub letters : List ℕ
  pub each : AllZip SpellsLetter pieces letters
  pub word_is : chars word ≡ concat pieces
  pub text_is : text ≡ encode_utf8_all letters

-- the word spells no text
abbrev pub SpellsNoText : List ℕ → Type 0
SpellsNoText word = (text : List ℕ) → ¬ SpellsText word text

-- the text of the word; `-` is the empty text
abbrev pub IsTextOf : List ℕ → List ℕ → Type 0
IsTextOf text word = (word ≡ codes "-" → text ≡ []) × (word ≢ codes "-" → SpellsText word text)

-- a letter as shown on one line: line ends become `\n` and `\r`, and a backslash is doubled
abbrev pub shown_letter : ℕ → List ℕ
shown_letter c =
    if c == 10 then codes "\\n" else if c == 13 then codes "\\r"
    else if c == 92 then codes "\\\\" else encode_utf8 c

-- decimal numbers separated by single spaces (32), as in `[1 2 3]`
abbrev pub elements_text : List ℕ → List ℕ
elements_text numbers = codes "[" ++ (join_with_byte 32 (map decimal numbers) ++ codes "]")
