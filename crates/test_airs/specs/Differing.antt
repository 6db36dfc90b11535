-- The constraints of the AIR under a difference.
use Rattle.std.specs.Prelude.{List, ◌++◌}
use Rattle.air_field.specs.Term.{Term}
use Rattle.air_builder.specs.Assertion.{Assertion}
use Rattle.air_builder.specs.Notation.{current, ◌⊖◌, ◌≐◌, boolean, when}
use Rattle.air_builder.specs.Refusals.{PartOf}

-- where y and z differ: x is a bit, and x is y
abbrev pub differing_asserts : {F : Type 0} → F → List (Assertion F)
differing_asserts one = when (current 1 ⊖ current 2) (boolean one (current 0) ++ current 0 ≐ current 1)

-- each value means its column
pub record RowMeans {E F : Type 0} (means : E → Term F → Type 0) (x y z : E) : Type 0 where
  pub x_means : means x (current 0)
  pub y_means : means y (current 1)
  pub z_means : means z (current 2)

-- each list with this term as a part may be refused with this error
abbrev pub RefusesPart : {S F X : Type 0} → (S → X → List (Assertion F) → Type 0) → S → Term F → X → Type 0
RefusesPart {F = F} refuses a t e = (ts : List (Assertion F)) → PartOf t ts → refuses a e ts
