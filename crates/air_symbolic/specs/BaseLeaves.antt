-- What the leaves of base expressions mean.
use Rattle.std.specs.Prelude.{Option, None, Some, ⊤}
use Rattle.air_field.specs.Term.{first_row, last_row, transition, Term, leaf_term, const_term}
use Rattle.air_core.specs.Entries.{entry_leaf}
use Rattle.air_symbolic.specs.Leaves.{Leaves}
use Rattle.air_symbolic.specs.declared.leaves.base_leaf.BaseLeaf.{BaseLeaf}
use Rattle.air_symbolic.specs.declared.leaves.base_leaf.BaseLeaf.TheVariants.{Variable, IsFirstRow, IsLastRow, IsTransition, Constant}

abbrev pub base_term : {F : Type 0} → BaseLeaf F → Term F
base_term (Variable v) = leaf_term (entry_leaf v.entry v.index)
base_term IsFirstRow = leaf_term first_row
base_term IsLastRow = leaf_term last_row
base_term IsTransition = leaf_term transition
base_term (Constant c) = const_term c

abbrev pub base_constant : {F : Type 0} → BaseLeaf F → Option F
base_constant (Variable v) = None
base_constant IsFirstRow = None
base_constant IsLastRow = None
base_constant IsTransition = None
base_constant (Constant c) = Some c

abbrev pub base_leaves : {F : Type 0} → Leaves (BaseLeaf F) F
base_leaves = record { sound = ⊤; valid = λ _. ⊤; constant = base_constant; term = base_term }

-- base leaves, over the empty base
abbrev pub base_reads : {F : Type 0} → ⊤ → Leaves (BaseLeaf F) F
base_reads _ = base_leaves

abbrev pub base_grows : ⊤ → ⊤ → Type 0
base_grows _ _ = ⊤
