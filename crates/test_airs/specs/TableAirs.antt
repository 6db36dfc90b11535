-- The named lists of constraints.
use Rattle.std.specs.Prelude.{ℕ, List, ◌++◌}
use Rattle.air_field.specs.Term.{Term}
use Rattle.air_builder.specs.Assertion.{Assertion}
use Rattle.air_builder.specs.Notation.{current, permutation_current, challenge, permutation_value, ◌⊖◌, ◌⊙◌, is_zero, ext_is_zero}
use Rattle.air_author.specs.Expressions.{power_term}

-- permutation 0 times challenge 0 is permutation value 0
abbrev pub permuted_asserts : {F : Type 0} → List (Assertion F)
permuted_asserts = ext_is_zero (permutation_current 0 ⊙ challenge 0 ⊖ permutation_value 0)

-- column 0 is zero, then the constraint over the extension, then column 1 is zero
abbrev pub mixed_asserts : {F : Type 0} → List (Assertion F)
mixed_asserts = is_zero (current 0) ++ permuted_asserts ++ is_zero (current 1)

-- column 0 is zero, then columns 1 and 0 over the extension
abbrev pub labelled_asserts : {F : Type 0} → List (Assertion F)
labelled_asserts = is_zero (current 0) ++ ext_is_zero (current 1) ++ ext_is_zero (current 0)

-- t to the power n, and that to the power n
abbrev pub raised_twice : {F : Type 0} → F → ℕ → Term F → Term F
raised_twice one n t = power_term one (power_term one t n) n

-- column 0, raised to the power n eight times in a row, is zero
abbrev pub steep : {F : Type 0} → F → ℕ → List (Assertion F)
steep one n = is_zero (raised_twice one n (raised_twice one n (raised_twice one n (raised_twice one n (current 0)))))
