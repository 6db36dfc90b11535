-- The errors of a builder.
use Rattle.std.specs.Prelude.{ℕ, List, ⊤}
use Rattle.air_field.specs.Term.{Leaf, permutation, Term, leaf_term}
use Rattle.air_core.specs.Entries.{entry_leaf}
use Rattle.air_core.specs.ExtEntries.{ext_entry_leaf}
use Rattle.air_builder.specs.Assertion.{Assertion}
use Rattle.air_builder.specs.Refusals.{IsOfWindow, IsPastWindow, PartOf}
use Rattle.air_core.specs.declared.errors.AirError.{AirError}
use Rattle.air_core.specs.declared.errors.AirError.TheVariants.{Memory, DegreeOverflow, CountOverflow, MissingEntry, RowOffset, MissingExtEntry, NoPermutation}

-- `Memory` always; `DegreeOverflow`, if a part's degree is too great; `CountOverflow`, if the count is full; `MissingEntry`
-- and `RowOffset`, if a part names such a missing entry, inside or past the window; `MissingExtEntry` and `NoPermutation`,
-- if a part names such a missing entry; nothing else
abbrev pub Refused : {F : Type 0} → (Leaf → Type 0) → (Term F → Type 0) → (List (Assertion F) → Type 0) → AirError → List (Assertion F) → Type 0
Refused missing over full Memory ts = ⊤
Refused {F = F} missing over full DegreeOverflow ts = (t : Term F) × (over t × PartOf t ts)
Refused missing over full CountOverflow ts = full ts
Refused missing over full (MissingEntry e i) ts =
    missing (entry_leaf e i) × PartOf (leaf_term (entry_leaf e i)) ts × IsOfWindow e
Refused missing over full (RowOffset o) ts = (l : Leaf) × IsPastWindow o l × missing l × PartOf (leaf_term l) ts
Refused missing over full (MissingExtEntry e i) ts = missing (ext_entry_leaf e i) × PartOf (leaf_term (ext_entry_leaf e i)) ts
Refused missing over full NoPermutation ts = (o : ℕ) × (i : ℕ) × missing (permutation o i) × PartOf (leaf_term (permutation o i)) ts
Refused missing over full _ ts = ⊥
