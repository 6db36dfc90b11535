-- The members are read exactly as they are spelt.
use Rattle.std.proofs.Common.{◌≡◌, ℕ, Bool, true, false, List, [], length, Option, Some, None, Ok, Err, if◌then◌else◌, codes, refl, sym, ap, ◌∙◌, inl, inr}
use Rattle.std.proofs.lemmas.Bool.{ltb-false, le-ltb}
use Rattle.std.specs.Prelude.{nat_lt}
use Rattle.serde_json.specs.Find.{as_str}
use Rattle.serde_json.specs.Data.{Data, null, boolean, number, unsigned, negative, float, string, array, object}
use Rattle.air_field.specs.Modular.{Modular}
use Rattle.air_json.specs.BaseLeaves.{element_or, element_at, base_kind}
use Rattle.air_json.specs.laws.BaseLeaves.{element_found, element_again, base_kind_laws}
use Rattle.air_json.specs.Boundaries.{SpellsCell, cell_of}
use Rattle.air_json.specs.laws.Boundaries.{cell_laws}
use Rattle.air_json.specs.laws.Lists.{root_found, root_again, root_fault, root_fault_read}
use Rattle.air_json.specs.Parts.{as_whole_number}
use Rattle.air_json.specs.laws.Readings.{by_some, number_found, text_found, err_of, err_is}
use Rattle.air_json.specs.Spelling.{IsWholeNumber}
use Rattle.air_json.specs.declared.errors.FlatError.{FlatError}
use Rattle.air_json.specs.declared.errors.FlatError.TheVariants as faults
use Rattle.air_object.specs.Objects.{list_of, at_most, needed_member, optional_member}
use Rattle.air_object.specs.Members.{whole_number, ElementFault, element, constraint, constraints, boundary_cell, SpellsCap, cap, label, table_of, table, made, members, labelled_constraints}
use Rattle.air_object.specs.Readers.{or_wrong_form, list_read, tree, trees, elements, columns, cell_read, cells, label_read, labels, cap_in, width_member, elements_member, table_member, constraints_member, periodic_member, boundary_member, cap_member, weight_member, labels_member, labelled_read, members_with, members_read}
use Rattle.air_object.specs.laws.Agreement.{Agrees, by_form_agrees, list_agrees, at_most_agrees, needed_agrees, optional_agrees, given_agrees, then_agrees, both_agree, both_or_none_agrees}

whole_again : (d : Data) (n : ℕ) → IsWholeNumber n d → as_whole_number d ≡ Some n
whole_again d n h = ap as_whole_number h

whole_agrees : Agrees whole_number (λ d. or_wrong_form (as_whole_number d))
whole_agrees = by_form_agrees (λ d n. IsWholeNumber n d) as_whole_number number_found whole_again

cell_agrees : Agrees boundary_cell cell_read
cell_agrees = by_form_agrees SpellsCell cell_of cell_laws.found cell_laws.again

cells_agree : Agrees (list_of boundary_cell) cells
unfolding cells
cells_agree = list_agrees boundary_cell cell_read cell_agrees

cap_found : (d : Data) (o : Option ℕ) → cap_in d ≡ Some o → SpellsCap d o
unfolding cap_in
cap_found null o e = by_some (SpellsCap null) None o refl e
cap_found (boolean b) o e = absurd cc
cap_found (number (unsigned n)) o e = by_some (SpellsCap (number (unsigned n))) (Some n) o refl e
cap_found (number (negative z)) o e = absurd cc
cap_found (number (float x)) o e = absurd cc
cap_found (string s) o e = absurd cc
cap_found (array ds) o e = absurd cc
cap_found (object ms) o e = absurd cc

cap_again : (d : Data) (o : Option ℕ) → SpellsCap d o → cap_in d ≡ Some o
unfolding cap_in
cap_again d None h = rw h refl
cap_again d (Some n) h = rw h refl

cap_agrees : Agrees cap (λ d. or_wrong_form (cap_in d))
cap_agrees = by_form_agrees SpellsCap cap_in cap_found cap_again

width_agrees : (name : List ℕ) → Agrees (needed_member name whole_number) (width_member name)
unfolding width_member
width_agrees name = needed_agrees name whole_number (λ d. or_wrong_form (as_whole_number d)) whole_agrees

boundary_agrees : Agrees (optional_member (codes "boundary") [] (list_of boundary_cell)) boundary_member
unfolding boundary_member
boundary_agrees = optional_agrees (codes "boundary") (list_of boundary_cell) cells cells_agree []

cap_member_agrees : Agrees (optional_member (codes "cap") None cap) cap_member
unfolding cap_member
cap_member_agrees = optional_agrees (codes "cap") cap (λ d. or_wrong_form (cap_in d)) cap_agrees None

weight_agrees : Agrees (optional_member (codes "transition_weight") 0 whole_number) weight_member
unfolding weight_member
weight_agrees = optional_agrees (codes "transition_weight") whole_number (λ d. or_wrong_form (as_whole_number d)) whole_agrees 0

label_agrees : Agrees label label_read
label_agrees = by_form_agrees (λ d text. d ≡ string text) as_str text_found (λ d text h. ap as_str h)

labels_agree : (n : ℕ) → Agrees (at_most n (list_of label)) (labels n)
unfolding labels
labels_agree n = at_most_agrees n (list_of label) (list_read label_read) (list_agrees label label_read label_agrees)

labels_member_agrees : (n : ℕ) → Agrees (optional_member (codes "labels") [] (at_most n (list_of label))) (labels_member n)
unfolding labels_member
labels_member_agrees n = optional_agrees (codes "labels") (at_most n (list_of label)) (labels n) (labels_agree n) []

module _ {F : Type 0} {order : ℕ} (modular : Modular F order) where
  -- ---- elements

  element_fault : (d : Data) (f : FlatError) (o : Option ℕ) → as_whole_number d ≡ o → element_or modular 0 o ≡ Err f → ElementFault order d f
  element_fault d f None is e = inl ((λ n h. absurd (cc (sym is ∙ whole_again d n h))), sym (err_is (faults.Shape 0) f e))
  element_fault d f (Some n) is e = by_size (nat_lt n order) refl e
    where
      by_size : (b : Bool) → nat_lt n order ≡ b → if b then Ok (modular.class n) else Err (faults.NotCanonical 0) ≡ Err f → ElementFault order d f
      by_size true small e = absurd cc
      by_size false big e = inr (n, number_found d n is, ltb-false n order big, sym (err_is (faults.NotCanonical 0) f e))

  element_refused : (d : Data) (f : FlatError) → ElementFault order d f → element_at modular 0 d ≡ Err f
  unfolding element_at
  element_refused d f (inl h) = none (as_whole_number d) refl
    where
      none : (o : Option ℕ) → as_whole_number d ≡ o → element_or modular 0 o ≡ Err f
      none None is = ap (λ g. err_of g) (sym h.1)
      none (Some n) is = absurd (h.0 n (number_found d n is))
  element_refused d f (inr h) =
      ap (λ e. element_or modular 0 (as_whole_number e)) h.1
      ∙ ap (λ b. if b then Ok (modular.class h.0) else Err (faults.NotCanonical 0)) (le-ltb h.0 order h.2) ∙ ap (λ g. err_of g) (sym h.3)

  fault_of_element : (d : Data) (f : FlatError) → element_at modular 0 d ≡ Err f → ElementFault order d f
  unfolding element_at
  fault_of_element d f e = element_fault d f (as_whole_number d) refl e

  element_agrees : Agrees (element modular) (element_at modular 0)
  element_agrees = record { found = element_found modular 0; again = element_again modular 0; fault = fault_of_element; refused = element_refused }

  elements_agree : Agrees (list_of (element modular)) (elements modular)
  unfolding elements
  elements_agree = list_agrees (element modular) (element_at modular 0) element_agrees

  columns_agree : Agrees (list_of (list_of (element modular))) (columns modular)
  unfolding columns
  columns_agree = list_agrees (list_of (element modular)) (elements modular) elements_agree

  -- ---- constraints

  tree_agrees : Agrees (constraint modular) (tree modular)
  tree_agrees = record {
    found = root_found (base_kind modular) (base_kind_laws modular);
    again = root_again (base_kind modular) (base_kind_laws modular);
    fault = root_fault (base_kind modular) (base_kind_laws modular);
    refused = root_fault_read (base_kind modular) (base_kind_laws modular);
  }

  trees_agree : Agrees (list_of (constraint modular)) (trees modular)
  unfolding trees
  trees_agree = list_agrees (constraint modular) (tree modular) tree_agrees

  -- ---- members

  numbers_agree : (name : List ℕ) → Agrees (needed_member name (list_of (element modular))) (elements_member modular name)
  unfolding elements_member
  numbers_agree name = needed_agrees name (list_of (element modular)) (elements modular) elements_agree

  table_agrees : Agrees (table modular) (table_member modular)
  unfolding table_member
  table_agrees =
      then_agrees _ _
      (both_or_none_agrees (codes "preprocessed_width") (codes "preprocessed") whole_number (list_of (element modular)) _
      (both_agree _ (width_member (codes "preprocessed_width")) (width_agrees (codes "preprocessed_width")) _ (elements_member modular (codes "preprocessed")) (numbers_agree (codes "preprocessed"))))
      _ (λ rows d. Ok (table_of rows)) (λ rows. given_agrees (table_of rows))

  pub constraints_agree : Agrees (constraints modular) (constraints_member modular)
  unfolding constraints_member
  constraints_agree = needed_agrees (codes "constraints") (list_of (constraint modular)) (trees modular) trees_agree

  periodic_agrees : Agrees (optional_member (codes "periodic") [] (list_of (list_of (element modular)))) (periodic_member modular)
  unfolding periodic_member
  periodic_agrees = optional_agrees (codes "periodic") (list_of (list_of (element modular))) (columns modular) columns_agree []

  pub labelled_agree : Agrees (labelled_constraints modular) (labelled_read modular)
  labelled_agree =
      then_agrees _ (constraints_member modular) constraints_agree _ _ (λ trees.
      then_agrees _ (labels_member (length trees)) (labels_member_agrees (length trees)) _ (λ texts d. Ok (trees, texts)) (λ texts. given_agrees (trees, texts)))

  pub members_agree : Agrees (members modular) (members_read modular)
  unfolding members_with
  members_agree =
      then_agrees _ (width_member (codes "main_width")) (width_agrees (codes "main_width")) _ _ (λ width.
      then_agrees _ (elements_member modular (codes "main")) (numbers_agree (codes "main")) _ _ (λ main.
      then_agrees _ (table_member modular) table_agrees _ _ (λ preprocessed.
      then_agrees _ (elements_member modular (codes "public_values")) (numbers_agree (codes "public_values")) _ _ (λ public_values.
      then_agrees _ (constraints_member modular) constraints_agree _ _ (λ trees.
      then_agrees _ (periodic_member modular) periodic_agrees _ _ (λ periodic.
      then_agrees _ boundary_member boundary_agrees _ _ (λ boundary.
      then_agrees _ cap_member cap_member_agrees _ _ (λ most.
      then_agrees _ weight_member weight_agrees _ _ (λ weight.
      then_agrees _ (labels_member (length trees)) (labels_member_agrees (length trees)) _ (λ texts d. Ok (made width main preprocessed public_values trees periodic boundary most weight texts)) (λ texts.
      given_agrees (made width main preprocessed public_values trees periodic boundary most weight texts)))))))))))
