-- Spelling entries and variables; a variable is an entry with an index.
use Rattle.std.specs.Prelude.{◌≡◌, ℕ, List, Option, Some, None, option_map, option_and_then, codes}
use Rattle.serde_json.specs.Data.{Data, string, object, member, no_members}
use Rattle.serde_json.specs.Find.{as_str, get}
use Rattle.air_json.specs.Parts.{whole_at, all_two, find_name, text_or}
use Rattle.air_json.specs.Plain.{Plain}
use Rattle.air_json.specs.Spelling.{number_data, case_data, IsCase, HasField, HasWhole}

-- An entry is spelt by a name, or by a name with an offset.
pub data EntryForm : Type 0 where
  bare : List ℕ → EntryForm
  at_offset : List ℕ → ℕ → EntryForm

-- the JSON value written for a form
abbrev pub form_data : EntryForm → Data
form_data (bare name) = string name
form_data (at_offset name o) = case_data name (object (member (codes "offset") (number_data o) no_members))

-- the JSON values that spell a form: further keys of a struct's object are ignored
abbrev pub SpellsEntryForm : Data → EntryForm → Type 0
SpellsEntryForm d (bare name) = d ≡ string name
SpellsEntryForm d (at_offset name o) = IsCase name (HasWhole (codes "offset") o) d

-- the form with an offset that a value spells
abbrev pub offset_form : List ℕ → Data → Option EntryForm
offset_form name c = option_map (λ o. at_offset name o) (whole_at (codes "offset") c)

abbrev pub entry_form_of : Data → Option EntryForm
entry_form_of d = text_or None (λ name. Some (bare name)) offset_form (as_str d) d

-- The entries of a kind by their names: those with an offset, and those without.
pub record EntryNames (E : Type 0) : Type 0 where
  pub offsets : List (List ℕ × (ℕ → E))
  pub bares : List (List ℕ × E)

-- the entry with this form
abbrev pub entry_of_form : {E : Type 0} → EntryNames E → EntryForm → Option E
entry_of_form names (bare name) = find_name names.bares name
entry_of_form names (at_offset name o) = option_map (λ make. make o) (find_name names.offsets name)

unfoldable pub entry_read : {E : Type 0} → EntryNames E → Data → Option E
entry_read names d = option_and_then (entry_of_form names) (entry_form_of d)

-- the spelling of entries with these forms and names
abbrev pub named_plain : {E : Type 0} → (E → EntryForm) → EntryNames E → Plain E
named_plain form names = record { written = λ e. form_data (form e); spells = λ d e. SpellsEntryForm d (form e); read = λ d. entry_read names d }

-- ---- an entry and an index, each as a field

abbrev pub indexed_object : Data → ℕ → Data
indexed_object entry i = object (member (codes "entry") entry (member (codes "index") (number_data i) no_members))

abbrev pub SpellsIndexed : {E : Type 0} → Plain E → Data → E → ℕ → Type 0
SpellsIndexed entry d e i = HasField (codes "entry") (λ c. entry.spells c e) d × HasWhole (codes "index") i d

unfoldable pub indexed_read : {E V : Type 0} → Plain E → (E → ℕ → V) → Data → Option V
indexed_read entry make d = all_two make (option_and_then entry.read (get (codes "entry") d)) (whole_at (codes "index") d)

-- the spelling of a variable made of both
abbrev pub indexed_plain : {E V : Type 0} → Plain E → (E → ℕ → V) → (V → E) → (V → ℕ) → Plain V
indexed_plain entry make entry_in index_in = record {
  written = λ v. indexed_object (entry.written (entry_in v)) (index_in v);
  spells = λ d v. SpellsIndexed entry d (entry_in v) (index_in v);
  read = λ d. indexed_read entry make d;
}
