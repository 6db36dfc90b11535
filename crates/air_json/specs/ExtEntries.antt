-- Spelling and reading extension entries and variables.
use Rattle.std.specs.Prelude.{ℕ, [], ◌∷◌, codes}
use Rattle.serde_json.specs.Data.{Data}
use Rattle.air_json.specs.Plain.{Plain}
use Rattle.air_json.specs.EntryForms.{EntryForm, bare, at_offset, EntryNames, named_plain, indexed_plain}
use Rattle.air_core.specs.declared.variables.ext_entry.ExtEntry.{ExtEntry}
use Rattle.air_core.specs.declared.variables.ext_entry.ExtEntry.TheVariants as entries
use Rattle.air_core.specs.declared.variables.variable_ext.SymbolicVariableExt.{SymbolicVariableExt}

-- the form of each entry
abbrev pub ext_entry_form : ExtEntry → EntryForm
ext_entry_form (entries.Permutation o) = at_offset (codes "Permutation") o
ext_entry_form entries.Challenge = bare (codes "Challenge")
ext_entry_form entries.PermutationValue = bare (codes "PermutationValue")

-- the names by which each entry is read
unfoldable pub ext_entry_names : EntryNames ExtEntry
ext_entry_names = record {
  offsets = (codes "Permutation", λ o. entries.Permutation o) ∷ [];
  bares = (codes "Challenge", entries.Challenge) ∷ (codes "PermutationValue", entries.PermutationValue) ∷ [];
}

-- writing, spelling and reading an entry
abbrev pub ext_entry_plain : Plain ExtEntry
ext_entry_plain = named_plain ext_entry_form ext_entry_names

abbrev pub SpellsExtEntry : Data → ExtEntry → Type 0
SpellsExtEntry d e = ext_entry_plain.spells d e

-- a variable is an entry with an index
abbrev pub ext_variable_at : {F EF : Type 0} → ExtEntry → ℕ → SymbolicVariableExt F EF
ext_variable_at e i = record { entry = e; index = i; of = record {} }

abbrev pub ext_variable_plain : {F EF : Type 0} → Plain (SymbolicVariableExt F EF)
ext_variable_plain = indexed_plain ext_entry_plain ext_variable_at (λ v. v.entry) (λ v. v.index)

abbrev pub SpellsExtVariable : {F EF : Type 0} → Data → SymbolicVariableExt F EF → Type 0
SpellsExtVariable d v = ext_variable_plain.spells d v
