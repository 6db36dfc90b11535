-- Which leaf an extension variable is.
use Rattle.std.specs.Prelude.{ℕ}
use Rattle.air_field.specs.Term.{Leaf, permutation, challenge, permutation_value}
use Rattle.air_core.specs.declared.variables.ext_entry.ExtEntry.{ExtEntry}
use Rattle.air_core.specs.declared.variables.ext_entry.ExtEntry.TheVariants.{Permutation, Challenge, PermutationValue}

-- the leaf at place i of an entry
abbrev pub ext_entry_leaf : ExtEntry → ℕ → Leaf
ext_entry_leaf (Permutation o) i = permutation o i
ext_entry_leaf Challenge i = challenge i
ext_entry_leaf PermutationValue i = permutation_value i
