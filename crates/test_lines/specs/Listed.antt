-- Lists written as one word.
use Rattle.std.specs.Prelude.{ℕ, List, [], codes, bytes_eq, ◌==◌, if◌then◌else◌}
use Rattle.std.specs.List.{slice_split, list_any}

-- the parts of a word between the separators
abbrev pub parts_at : ℕ → List ℕ → List (List ℕ)
parts_at separator word = slice_split (λ b. b == separator) word

-- the parts between commas (44); none if the word is `-`
abbrev pub comma_parts : List ℕ → List (List ℕ)
comma_parts word = if bytes_eq word (codes "-") then [] else parts_at 44 word

-- the coefficients, separated by dots (46) if the word has one, otherwise by commas
abbrev pub coefficients_listed : List ℕ → List (List ℕ)
coefficients_listed word = parts_at (if list_any (λ b. b == 46) word then 46 else 44) word
