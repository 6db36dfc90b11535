-- The rows of a permutation trace that a builder may hold.
use Rattle.std.specs.Prelude.{List, [], Option, None, Some}
use Rattle.air_field.specs.OneRow.{PermutationData}
use Rattle.air_field.specs.declared.matrices.view.ViewPair.{ViewPair}

-- the two rows of the permutation trace; without a permutation trace they have no columns
abbrev pub permutation_row : {E : Type 0} → Option (ViewPair E) → List E
permutation_row None = []
permutation_row (Some p) = p.top.values.now

abbrev pub next_permutation_row : {E : Type 0} → Option (ViewPair E) → List E
next_permutation_row None = []
next_permutation_row (Some p) = p.bottom.values.now

-- the permutation data of the row
abbrev pub permutation_data : {E : Type 0} → Option (ViewPair E) → List E → List E → PermutationData E
permutation_data p challenges exposed = record { current = permutation_row p; next = next_permutation_row p; challenges = challenges; exposed = exposed }
