-- The constraints of the accumulator.
use Rattle.std.specs.Prelude.{ℕ, List, ◌++◌}
use Rattle.p3_air.specs.Author.{Assertion, current, next, public, first_row, last_row, transition, ◌⊕◌, ◌≐◌, is_zero, when}

-- the total of the rows before begins at zero and grows by the row's value; after the last row it is public value 0
abbrev pub accumulator : {F : Type 0} → List (Assertion F)
accumulator =
    let value : ℕ = 0 in
    let total : ℕ = 1 in
    when first_row (is_zero (current total)) ++
    when transition (next total ≐ current total ⊕ current value) ++
    when last_row (public 0 ≐ current total ⊕ current value)
