-- The constraint of the AIR with a gadget.
use Rattle.std.specs.Prelude.{List}
use Rattle.air_field.specs.Term.{Term}
use Rattle.air_builder.specs.Assertion.{Assertion}
use Rattle.air_builder.specs.Notation.{current, next, transition, ◌⊕◌, ◌≐◌, when}

-- the expression passed to the gadget
abbrev pub sum_term : {F : Type 0} → Term F
sum_term = current 0 ⊕ current 1

-- column 1 of the next row is the sum of this row's columns 0 and 1
abbrev pub handed_asserts : {F : Type 0} → List (Assertion F)
handed_asserts = when transition (next 1 ≐ sum_term)
