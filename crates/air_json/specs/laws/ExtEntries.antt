-- Extension entries and variables: reading answers exactly the one that is spelt, and the written value is one
-- spelling.
use Rattle.std.specs.Prelude.{◌≡◌, Some, refl}
use Rattle.air_json.specs.Plain.{PlainLaws}
use Rattle.air_json.specs.EntryForms.{entry_of_form}
use Rattle.air_json.specs.laws.EntryForms.{named_laws, indexed_laws}
use Rattle.air_json.specs.ExtEntries.{ext_entry_form, ext_entry_names, ext_entry_plain, ext_variable_at, ext_variable_plain}
use Rattle.air_core.specs.declared.variables.ext_entry.ExtEntry.{ExtEntry}
use Rattle.air_core.specs.declared.variables.ext_entry.ExtEntry.TheVariants as entries

again : (e : ExtEntry) → entry_of_form ext_entry_names (ext_entry_form e) ≡ Some e
unfolding ext_entry_names
again (entries.Permutation o) = refl
again entries.Challenge = refl
again entries.PermutationValue = refl

pub ext_entry_laws : PlainLaws ext_entry_plain
unfolding ext_entry_names
ext_entry_laws = named_laws ext_entry_form ext_entry_names ((λ o. refl), tt) (refl, (refl, tt)) again

pub ext_variable_laws : {F EF : Type 0} → PlainLaws (ext_variable_plain {F = F} {EF = EF})
ext_variable_laws = indexed_laws ext_entry_plain ext_entry_laws ext_variable_at (λ v. v.entry) (λ v. v.index) (λ v. refl) (λ e i. (refl, refl))
