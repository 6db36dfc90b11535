-- The constraints of a lookup of bytes.
use Rattle.std.specs.Prelude.{List, [], ◌++◌}
use Rattle.p3_air.specs.Author.{CommRing, Assertion, plain_declaration, current, next, permutation_current, permutation_next, challenge, first_row, last_row, transition, constant, negative, ◌⊕◌, ◌⊖◌, ◌⊙◌, ◌≐◌, ◌≐ₑ◌, is_zero, ext_is_zero, when}
use Rattle.p3_air.specs.Claims.{Grid}
use Rattle.air_report.specs.Instances.{Instance, instance}

-- column 1 counts the rows from 0 on
abbrev pub counts_rows : {F : Type 0} → CommRing F → List (Assertion F)
counts_rows R =
    when first_row (is_zero (current 1)) ++
    when transition (next 1 ≐ (current 1 ⊕ constant R.one))

-- column 0 is looked up in column 1, which is offered as often as column 2 says
abbrev pub looks_up : {F : Type 0} → CommRing F → List (Assertion F)
looks_up R =
    let sum = permutation_current 0 in
    let after = sum ⊕ (permutation_current 1 ⊕ permutation_current 2) in
    ((challenge 0 ⊖ current 0) ⊙ permutation_current 1 ≐ₑ negative (constant R.one)) ++
    ((challenge 0 ⊖ current 1) ⊙ permutation_current 2 ≐ₑ current 2) ++
    when first_row (ext_is_zero sum) ++
    when transition (permutation_next 0 ≐ₑ after) ++
    when last_row (ext_is_zero after)

abbrev pub bytes : {F : Type 0} → CommRing F → List (Assertion F)
bytes R = counts_rows R ++ looks_up R

-- the AIR on a trace
abbrev pub bytes_instance : {F : Type 0} → CommRing F → Grid F → Instance F
bytes_instance R trace = instance (plain_declaration (bytes R) 3 0) trace []
