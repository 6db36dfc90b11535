-- The input: lines of numbers.
use Rattle.std.specs.Prelude.{ℕ, List, [], ◌∷◌, length, map, filter, Bool, ◌&&◌, ◌==◌, nat_lt, nat_le, if◌then◌else◌, Option, Some, None, option_map, option_and_then}
use Rattle.std.specs.List.{slice_split, list_all, concat}
use Rattle.std.specs.Str.{all_ascii_digits}
use Rattle.std.specs.Str.Lines.{lines}
use Rattle.std.specs.Str.Parse.{digits_value}

-- ---- numbers

-- 1 to 10 digits
abbrev pub is_numeral : List ℕ → Bool
is_numeral field = nat_lt 0 (length field) && (nat_le (length field) 10 && all_ascii_digits field)

-- at most 2013265920
abbrev pub if_element : ℕ → Option ℕ
if_element n = if nat_le n 2013265920 then Some n else None

unfoldable pub element_number : List ℕ → Option ℕ
element_number field = if is_numeral field then if_element (digits_value 10 field) else None

-- ---- lines

abbrev pub has_some : {X : Type 0} → List X → Bool
has_some xs = nat_lt 0 (length xs)

-- the non-empty parts between bytes 32
unfoldable pub fields_of : List ℕ → List (List ℕ)
fields_of line = filter has_some (slice_split (λ b. b == 32) line)

-- all of them, or nothing if one is missing
abbrev pub all_of : {X : Type 0} → List (Option X) → Option (List X)
all_of [] = Some []
all_of (x ∷ xs) = option_and_then (λ v. option_map (λ vs. v ∷ vs) (all_of xs)) x

-- the numbers in these fields
abbrev pub numbers_in : List (List ℕ) → Option (List ℕ)
numbers_in fields = all_of (map element_number fields)

abbrev pub numbers_of_line : List ℕ → Option (List ℕ)
numbers_of_line line = numbers_in (fields_of line)

-- ---- the whole input

-- the numbers of each line that has a field
abbrev pub rows_in : List (List (List ℕ)) → Option (List (List ℕ))
rows_in ls = all_of (map numbers_in (filter has_some ls))

unfoldable pub rows_of_lines : List (List ℕ) → Option (List (List ℕ))
rows_of_lines ls = rows_in (map fields_of ls)

-- three public values, and rows of two numbers, concatenated
abbrev pub input_of : List (List ℕ) → Option (List ℕ × List ℕ)
input_of [] = None
input_of (public ∷ rows) = if length public == 3 && list_all (λ row. length row == 2) rows then Some (public, concat rows) else None

-- The public values and the trace, or nothing if the syntax is wrong. Lines are those of std's `lines`: a byte 10 ends a line, and one byte 13 before it is
-- dropped. The last line may lack its end, and then a byte 13 stays.
unfoldable pub parse : List ℕ → Option (List ℕ × List ℕ)
parse bytes = option_and_then input_of (rows_of_lines (lines bytes))
