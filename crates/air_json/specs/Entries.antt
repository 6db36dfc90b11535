-- Spelling and reading base entries and variables.
use Rattle.std.specs.Prelude.{ℕ, [], ◌∷◌, codes}
use Rattle.serde_json.specs.Data.{Data}
use Rattle.air_json.specs.Plain.{Plain}
use Rattle.air_json.specs.EntryForms.{EntryForm, bare, at_offset, EntryNames, named_plain, indexed_plain}
use Rattle.air_core.specs.declared.variables.entry.BaseEntry.{BaseEntry}
use Rattle.air_core.specs.declared.variables.entry.BaseEntry.TheVariants as entries
use Rattle.air_core.specs.declared.variables.variable.SymbolicVariable.{SymbolicVariable}

-- the form of each entry
abbrev pub entry_form : BaseEntry → EntryForm
entry_form (entries.Preprocessed o) = at_offset (codes "Preprocessed") o
entry_form (entries.Main o) = at_offset (codes "Main") o
entry_form entries.Periodic = bare (codes "Periodic")
entry_form entries.Public = bare (codes "Public")

-- the names by which each entry is read
unfoldable pub entry_names : EntryNames BaseEntry
entry_names = record {
  offsets = (codes "Preprocessed", λ o. entries.Preprocessed o) ∷ (codes "Main", λ o. entries.Main o) ∷ [];
  bares = (codes "Periodic", entries.Periodic) ∷ (codes "Public", entries.Public) ∷ [];
}

-- writing, spelling and reading an entry
abbrev pub entry_plain : Plain BaseEntry
entry_plain = named_plain entry_form entry_names

abbrev pub SpellsEntry : Data → BaseEntry → Type 0
SpellsEntry d e = entry_plain.spells d e

-- a variable is an entry with an index
abbrev pub variable_at : {F : Type 0} → BaseEntry → ℕ → SymbolicVariable F
variable_at e i = record { entry = e; index = i; of = record {} }

abbrev pub variable_plain : {F : Type 0} → Plain (SymbolicVariable F)
variable_plain = indexed_plain entry_plain variable_at (λ v. v.entry) (λ v. v.index)

abbrev pub SpellsVariable : {F : Type 0} → Data → SymbolicVariable F → Type 0
SpellsVariable d v = variable_plain.spells d v
