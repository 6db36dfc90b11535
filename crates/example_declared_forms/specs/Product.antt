-- The constraints of the running product.
use Rattle.std.specs.Prelude.{List, ◌++◌}
use Rattle.p3_air.specs.Author.{CommRing, Assertion, current, permutation_current, permutation_next, challenge, permutation_value, first_row, last_row, transition, ◌⊕◌, ◌⊙◌, ◌≐ₑ◌, ext_is_one, when}

-- the product starts at one, is multiplied by each row's factor, and ends as the exposed value
abbrev pub running_product : {F : Type 0} → CommRing F → List (Assertion F)
running_product R =
    let product = permutation_current 0 in
    let more = product ⊙ (challenge 0 ⊕ current 0) in
    when first_row (ext_is_one R product) ++
    when transition (permutation_next 0 ≐ₑ more) ++
    when last_row (permutation_value 0 ≐ₑ more)
