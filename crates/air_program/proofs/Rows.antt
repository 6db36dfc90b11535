-- Rows, one after another.
use Rattle.std.proofs.Common.{◌≡◌, ℕ, ◌+◌, ◌<◌, true, List, [], ◌∷◌, ◌++◌, length, length-append, map, Option, Some, None, option_map, option_and_then, refl, ap, ◌∙◌, arith}
use Rattle.std.proofs.lemmas.Bool.{lt-ltb}
use Rattle.std.proofs.lemmas.List.{append-nil, length-map}
use Rattle.air_field.specs.BabyBear.{BabyBear}
use Rattle.air_program.specs.Grammar.{element_number, fields_of, numbers_of_line, numbers_in, rows_in, rows_of_lines, has_some}
use Rattle.air_program.specs.Parsing.{element_values, onto, with_row, PushesRow}

-- ---- one line

some_true : {X : Type 0} (x : X) (xs : List X) → has_some (x ∷ xs) ≡ true
some_true x xs = lt-ltb _ _ (omega arith)

-- a field is read as a number
cons_of : (o : Option ℕ) (left : Option (List ℕ)) (row : List ℕ) → option_and_then (λ n. option_map (λ ns. n ∷ ns) left) o ≡ Some row → (n : ℕ) × (ns : List ℕ) × (row ≡ n ∷ ns)
cons_of None left row e = absurd cc
cons_of (Some n) None row e = absurd cc
cons_of (Some n) (Some ns) row e = (n, ns, cc)

first_row : (fields : List (List ℕ)) (lines : List (List (List ℕ))) (row : List ℕ) → numbers_in fields ≡ Some row → 0 < length row → rows_in (fields ∷ lines) ≡ with_row row (rows_in lines)
first_row [] lines row e some = let none : row ≡ [] = cc in absurd (omega (arith, ap length none))
first_row (f ∷ fs) lines row e some =
    let made = cons_of (element_number f) (numbers_in fs) row e in
    rw (some_true f fs, e, made.2) refl

blank : (fields : List (List ℕ)) (lines : List (List (List ℕ))) (row : List ℕ) → numbers_in fields ≡ Some row → length row ≡ 0 → rows_in (fields ∷ lines) ≡ rows_in lines
blank [] lines row e none = refl
blank (f ∷ fs) lines row e none =
    let made = cons_of (element_number f) (numbers_in fs) row e in
    absurd (omega (arith, ap length made.2))

bad : (fields : List (List ℕ)) (lines : List (List (List ℕ))) → numbers_in fields ≡ None → rows_in (fields ∷ lines) ≡ None
bad [] lines e = absurd cc
bad (f ∷ fs) lines e = rw (some_true f fs, e) refl

-- ---- the remaining lines

row_read : (before after : List ℕ) (numbers : Option (List ℕ)) → onto before numbers ≡ Some after → (row : List ℕ) × (numbers ≡ Some row) × (after ≡ before ++ row)
row_read before after None e = absurd cc
row_read before after (Some row) e = (row, refl, cc)

nothing_behind : (before row : List ℕ) → length row ≡ 0 → before ++ row ≡ before
nothing_behind before [] none = append-nil before
nothing_behind before (n ∷ ns) none = absurd (omega arith)

pub row_taken : (before after : List BabyBear) (line : List ℕ) (lines : List (List ℕ)) (count : ℕ) → onto (element_values before) (numbers_of_line line) ≡ Some (element_values after) → length after ≡ length before + count → 0 < count → PushesRow (element_values before) (element_values after) count (rows_of_lines (line ∷ lines)) (rows_of_lines lines)
unfolding rows_of_lines
row_taken before after line lines count e long some =
    let row = row_read (element_values before) (element_values after) (numbers_of_line line) e in
    let same : length (element_values after) ≡ length (element_values before) + length row.0 = ap length row.2 ∙ length-append (element_values before) row.0 in
    let all : count ≡ length row.0 = omega (arith, length-map before (λ x. x.residue), length-map after (λ x. x.residue)) in
    (row.0, row.2, all, first_row (fields_of line) (map fields_of lines) row.0 row.1 (omega arith))

pub line_skipped : (before after : List BabyBear) (line : List ℕ) (lines : List (List ℕ)) (count : ℕ) → onto (element_values before) (numbers_of_line line) ≡ Some (element_values after) → length after ≡ length before + count → count ≡ 0 → (element_values after ≡ element_values before) × (rows_of_lines (line ∷ lines) ≡ rows_of_lines lines)
unfolding rows_of_lines
line_skipped before after line lines count e long none =
    let row = row_read (element_values before) (element_values after) (numbers_of_line line) e in
    let same : length (element_values after) ≡ length (element_values before) + length row.0 = ap length row.2 ∙ length-append (element_values before) row.0 in
    let empty : length row.0 ≡ 0 = omega (arith, length-map before (λ x. x.residue), length-map after (λ x. x.residue)) in
    (row.2 ∙ nothing_behind (element_values before) row.0 empty, blank (fields_of line) (map fields_of lines) row.0 row.1 empty)

pub bad_line : (line : List ℕ) (lines : List (List ℕ)) → numbers_of_line line ≡ None → rows_of_lines (line ∷ lines) ≡ None
unfolding rows_of_lines
bad_line line lines e = bad (fields_of line) (map fields_of lines) e

pub no_line : rows_of_lines [] ≡ Some []
unfolding rows_of_lines
no_line = refl
