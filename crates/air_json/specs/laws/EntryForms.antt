-- Entries by their forms, and variables: reading answers exactly the one that is spelt, and the written value is one
-- spelling.
use Rattle.std.specs.Prelude.{◌≡◌, ℕ, Some, None, option_map, option_and_then, codes, refl}
use Rattle.std.proofs.Common.{sym, ap, subst, ◌∙◌}
use Rattle.serde_json.specs.Data.{Data}
use Rattle.serde_json.specs.Find.{get}
use Rattle.air_json.specs.Parts.{whole_at, find_name}
use Rattle.air_json.specs.Plain.{Plain, PlainLaws}
use Rattle.air_json.specs.EntryForms.{EntryForm, bare, at_offset, form_data, SpellsEntryForm, offset_form, entry_form_of, EntryNames, entry_of_form, entry_read, named_plain, SpellsIndexed, indexed_read, indexed_plain}
use Rattle.air_json.specs.laws.Readings.{none_found, by_some, map_found, both_found, then_found, field_again, field_with, field_found, field_read, Rows, name_found, text_read}

form_is_spelt : (m : EntryForm) → SpellsEntryForm (form_data m) m
form_is_spelt (bare name) = refl
form_is_spelt (at_offset name o) = (_, refl, refl)

form_again : (d : Data) (m : EntryForm) → SpellsEntryForm d m → entry_form_of d ≡ Some m
form_again d (bare name) h = ap entry_form_of h
form_again d (at_offset name o) h = ap entry_form_of h.1 ∙ ap (option_map (λ n. at_offset name n)) (field_read (codes "offset") h.0 o h.2)

form_found : (d : Data) (m : EntryForm) → entry_form_of d ≡ Some m → SpellsEntryForm d m
form_found d m e =
    text_read (λ x. SpellsEntryForm x m) (λ o. o ≡ Some m) None (λ name. Some (bare name)) offset_form d e
    (λ name e. by_some (SpellsEntryForm _) (bare name) m refl e)
    (none_found (SpellsEntryForm d) m)
    (λ name c e. map_found (SpellsEntryForm _) (λ o. at_offset name o) (whole_at (codes "offset") c) m e (λ o at. (c, refl, field_found (codes "offset") c o at)))

-- entries that have these forms and names
module _ {E : Type 0} (form : E → EntryForm) (names : EntryNames E) (offset_rows : Rows (λ s make. (o : ℕ) → form (make o) ≡ at_offset s o) names.offsets)
    (bare_rows : Rows (λ s e. form e ≡ bare s) names.bares) (again : (e : E) → entry_of_form names (form e) ≡ Some e) where
  form_of_entry : (m : EntryForm) (e : E) → entry_of_form names m ≡ Some e → form e ≡ m
  form_of_entry (bare s) e h = name_found (λ s e. form e ≡ bare s) names.bares s e h bare_rows
  form_of_entry (at_offset s o) e h =
      map_found (λ e. form e ≡ at_offset s o) (λ make. make o) (find_name names.offsets s) e h
      (λ make at. name_found (λ s make. (o : ℕ) → form (make o) ≡ at_offset s o) names.offsets s make at offset_rows o)

  pub named_laws : PlainLaws (named_plain form names)
  unfolding entry_read
  named_laws = record {
    is_spelt = λ e. form_is_spelt (form e);
    found = λ d e h. then_found (SpellsEntryForm d (form e)) (entry_of_form names) (entry_form_of d) e h
        (λ m at is. subst (SpellsEntryForm d) (sym (form_of_entry m e is)) (form_found d m at));
    again = λ d e h. ap (option_and_then (entry_of_form names)) (form_again d (form e) h) ∙ again e;
  }

-- ---- an entry and an index

module _ {E V : Type 0} (entry : Plain E) (laws : PlainLaws entry) (make : E → ℕ → V) (entry_in : V → E) (index_in : V → ℕ)
    (same : (v : V) → make (entry_in v) (index_in v) ≡ v) (parts : (e : E) (i : ℕ) → (entry_in (make e i) ≡ e) × (index_in (make e i) ≡ i)) where
  pub indexed_laws : PlainLaws (indexed_plain entry make entry_in index_in)
  unfolding indexed_read
  indexed_laws = record {
    is_spelt = λ v. ((entry.written (entry_in v), refl, laws.is_spelt (entry_in v)), refl);
    found = λ d v h. both_found (λ v. SpellsIndexed entry d (entry_in v) (index_in v)) make (option_and_then entry.read (get (codes "entry") d)) (whole_at (codes "index") d) v h
        (λ e i at ix.
        subst (λ x. SpellsIndexed entry d x (index_in (make e i))) (sym (parts e i).0)
        (subst (λ j. SpellsIndexed entry d e j) (sym (parts e i).1) (field_with entry.spells entry.read laws.found (codes "entry") d e at, field_found (codes "index") d i ix)));
    again = λ d v h. rw (field_again entry.spells entry.read laws.again (codes "entry") d (entry_in v) h.0, field_read (codes "index") d (index_in v) h.1) (ap (λ x. Some x) (same v));
  }
