-- Base entries and variables: reading answers exactly the one that is spelt, and the written value is one spelling.
use Rattle.std.specs.Prelude.{◌≡◌, Some, refl}
use Rattle.air_json.specs.Plain.{PlainLaws}
use Rattle.air_json.specs.EntryForms.{entry_of_form}
use Rattle.air_json.specs.laws.EntryForms.{named_laws, indexed_laws}
use Rattle.air_json.specs.Entries.{entry_form, entry_names, entry_plain, variable_at, variable_plain}
use Rattle.air_core.specs.declared.variables.entry.BaseEntry.{BaseEntry}
use Rattle.air_core.specs.declared.variables.entry.BaseEntry.TheVariants as entries

again : (e : BaseEntry) → entry_of_form entry_names (entry_form e) ≡ Some e
unfolding entry_names
again (entries.Preprocessed o) = refl
again (entries.Main o) = refl
again entries.Periodic = refl
again entries.Public = refl

pub entry_laws : PlainLaws entry_plain
unfolding entry_names
entry_laws = named_laws entry_form entry_names ((λ o. refl), ((λ o. refl), tt)) (refl, (refl, tt)) again

pub variable_laws : {F : Type 0} → PlainLaws (variable_plain {F = F})
variable_laws = indexed_laws entry_plain entry_laws variable_at (λ v. v.entry) (λ v. v.index) (λ v. refl) (λ e i. (refl, refl))
