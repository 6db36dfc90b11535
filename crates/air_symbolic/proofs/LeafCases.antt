-- Weights and constants of leaves, by cases.
use Rattle.std.specs.Prelude.{◌≡◌, ℕ, List, [], None, refl}
use Rattle.air_field.specs.Degree.{cached_weight, transition_weight, trace_weight}
use Rattle.air_core.specs.ExtEntries.{ext_entry_leaf}
use Rattle.air_core.specs.declared.variables.ext_entry.ExtEntry.{ExtEntry}
use Rattle.air_core.specs.declared.variables.ext_entry.ExtEntry.TheVariants.{Permutation, Challenge, PermutationValue}
use Rattle.air_symbolic.specs.BaseLeaves.{base_constant}
use Rattle.air_symbolic.specs.declared.leaves.base_leaf.BaseLeaf.{BaseLeaf}
use Rattle.air_symbolic.specs.declared.leaves.base_leaf.BaseLeaf.TheVariants.{Variable, IsFirstRow, IsLastRow, IsTransition, Constant}

-- an extension variable is no transition selector
pub ext_transition : (w : ℕ) (e : ExtEntry) (i d : ℕ) → d ≡ cached_weight (ext_entry_leaf e i) → d ≡ transition_weight w (ext_entry_leaf e i)
ext_transition w (Permutation o) i d h = h
ext_transition w Challenge i d h = h
ext_transition w PermutationValue i d h = h

-- nor a periodic column
pub ext_trace : (n : ℕ) (periods : List ℕ) (e : ExtEntry) (i d : ℕ) → d ≡ trace_weight n [] (ext_entry_leaf e i) → d ≡ trace_weight n periods (ext_entry_leaf e i)
ext_trace n periods (Permutation o) i d h = h
ext_trace n periods Challenge i d h = h
ext_trace n periods PermutationValue i d h = h

-- only a constant leaf is a constant
pub no_constant : {F : Type 0} (a : BaseLeaf F) → ((c : F) → a ≡ Constant c → ⊥) → None ≡ base_constant a
no_constant (Variable v) n = refl
no_constant IsFirstRow n = refl
no_constant IsLastRow n = refl
no_constant IsTransition n = refl
no_constant (Constant c) n = absurd (n c refl)
