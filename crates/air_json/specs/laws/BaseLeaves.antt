-- Base leaves: reading answers exactly the leaf that is spelt.
use Rattle.std.specs.Prelude.{◌≡◌, ℕ, List, Option, Some, None, Result, Ok, Err, option_map, codes, if◌then◌else◌, nat_lt, ok_or, refl, true}
use Rattle.std.proofs.Common.{sym, ap, ◌∙◌, ◌⊎◌, inl, inr, ⊎_elim}
use Rattle.std.proofs.lemmas.Bool.{ltb-true, ltb-false, lt-ltb, le-ltb}
use Rattle.serde_json.specs.Data.{Data, string}
use Rattle.air_field.specs.Modular.{Modular}
use Rattle.air_field.specs.laws.Modular.{class_of}
use Rattle.std.proofs.Math.Nat.{mod-eq_of_lt}
use Rattle.air_symbolic.specs.Trees.{Tree, leaf_tree, add_tree, sub_tree, neg_tree, mul_tree}
use Rattle.air_symbolic.specs.declared.leaves.base_leaf.BaseLeaf.{BaseLeaf}
use Rattle.air_symbolic.specs.declared.leaves.base_leaf.BaseLeaf.TheVariants as leaves
use Rattle.air_json.specs.Parts.{as_whole_number}
use Rattle.air_json.specs.Results.{◌>>=◌}
use Rattle.air_json.specs.Spelling.{number_data, case_data, IsWholeNumber}
use Rattle.air_json.specs.laws.Readings.{map_found, ok_of, done_is, not_done, bind_ok, ok_or_found, test_ok, name_ok, name_found, text_read, number_found, err_of, err_is, not_failed, ok_or_failed, before_done, test_failed, name_failed}
use Rattle.air_json.specs.Entries.{variable_plain}
use Rattle.air_json.specs.laws.Entries.{variable_laws}
use Rattle.air_json.specs.Nodes.{KindLaws}
use Rattle.air_json.specs.Unshared.{map_leaves}
use Rattle.air_json.specs.laws.LeafFaults.{leaf_fault_found, leaf_fault_again}
use Rattle.air_json.specs.BaseLeaves.{SpellsLeaf, IsPast, OwnLeafFault, WritesLeaf, element_or, element_at, bare_leaves, bare_leaf, leaf_with, leaf_at, base_kind, base_seen}
use Rattle.air_json.specs.declared.errors.FlatError.{FlatError}
use Rattle.air_json.specs.declared.errors.FlatError.TheVariants as faults

module _ {F : Type 0} {p : ℕ} (m : Modular F p) where
  -- an element and its canonical number
  class_number : (n : ℕ) (x : F) → nat_lt n p ≡ true → ok_of (m.class n) ≡ ok_of x → n ≡ m.value x
  class_number n x small e = done_is (λ y. n ≡ m.value y) (m.class n) x e (sym (m.value_class n ∙ mod-eq_of_lt (ltb-true n p small)))

  element_found_of : (place : ℕ) (o : Option ℕ) (x : F) → element_or m place o ≡ Ok x → o ≡ Some (m.value x)
  element_found_of place None x e = absurd cc
  element_found_of place (Some n) x e =
      test_ok (λ y. Some n ≡ Some (m.value y)) (nat_lt n p) (Ok (m.class n)) (Err (faults.NotCanonical place)) x e
      (λ small e. ap (λ k. Some k) (class_number n x small e)) (not_done (λ y. Some n ≡ Some (m.value y)) (faults.NotCanonical place) x)

  pub element_found : (place : ℕ) (d : Data) (x : F) → element_at m place d ≡ Ok x → IsWholeNumber (m.value x) d
  unfolding element_at
  element_found place d x e = number_found d (m.value x) (element_found_of place (as_whole_number d) x e)

  pub element_again : (place : ℕ) (d : Data) (x : F) → IsWholeNumber (m.value x) d → element_at m place d ≡ Ok x
  unfolding element_at
  element_again place d x h =
      ap (λ e. element_or m place (as_whole_number e)) h
      ∙ ap (λ b. if b then Ok (m.class (m.value x)) else Err (faults.NotCanonical place)) (lt-ltb (m.value x) p (m.bound x))
      ∙ ap (λ y. ok_of y) (class_of m x)

  -- ---- leaves

  leaf_again : (place : ℕ) (d : Data) (a : BaseLeaf F) → SpellsLeaf m d a → leaf_at m place d ≡ Ok a
  unfolding leaf_at
  leaf_again place d (leaves.Variable v) h =
      ap (leaf_at m place) h.1 ∙ ap (λ o. ok_or (option_map (λ w. leaves.Variable w) o) (faults.Shape place)) (variable_laws.again h.0 v h.2)
  leaf_again place d leaves.IsFirstRow h = ap (leaf_at m place) h
  leaf_again place d leaves.IsLastRow h = ap (leaf_at m place) h
  leaf_again place d leaves.IsTransition h = ap (leaf_at m place) h
  leaf_again place d (leaves.Constant x) h =
      ap (leaf_at m place) h.1 ∙ ap (λ r. r >>= λ c. ok_of (leaves.Constant c)) (element_again place h.0 x h.2)

  with_found : (place : ℕ) (name : List ℕ) (c : Data) (a : BaseLeaf F) → leaf_with m place name c ≡ Ok a → SpellsLeaf m (case_data name c) a
  with_found place name c a h =
      let P : BaseLeaf F → Type 0 = SpellsLeaf m (case_data name c) in
      name_ok P name (codes "Variable") _ _ a h
      (λ same h. map_found P (λ v. leaves.Variable v) (variable_plain.read c) a (ok_or_found _ _ a h)
      (λ v at. (c, ap (λ t. case_data t c) same, variable_laws.found c v at)))
      (λ h. name_ok P name (codes "Constant") _ _ a h
      (λ same h.
      let x = bind_ok (element_at m place c) (λ x. ok_of (leaves.Constant x)) a h in
      done_is P (leaves.Constant x.0) a x.2 (c, ap (λ t. case_data t c) same, element_found place c x.0 x.1))
      (not_done P (faults.Shape place) a))

  leaf_found : (place : ℕ) (d : Data) (a : BaseLeaf F) → leaf_at m place d ≡ Ok a → SpellsLeaf m d a
  unfolding leaf_at
  leaf_found place d a h =
      text_read (λ x. SpellsLeaf m x a) (λ r. r ≡ Ok a) (Err (faults.Shape place)) (bare_leaf place) (leaf_with m place) d h
      (λ s e. name_found (λ s a. SpellsLeaf m (string s) a) bare_leaves s a (ok_or_found _ _ a e) (refl, (refl, (refl, tt))))
      (not_done (SpellsLeaf m d) (faults.Shape place) a) (λ name c. with_found place name c a)

  -- ---- faults

  element_failed : (place : ℕ) (d : Data) (o : Option ℕ) (f : FlatError) → as_whole_number d ≡ o → element_or m place o ≡ Err f → (IsPast p d × (f ≡ faults.NotCanonical place)) ⊎ (f ≡ faults.Shape place)
  element_failed place d None f is e = inr (sym (err_is {A = F} (faults.Shape place) f e))
  element_failed place d (Some n) f is e =
      test_failed ((IsPast p d × (f ≡ faults.NotCanonical place)) ⊎ (f ≡ faults.Shape place)) (nat_lt n p) (Ok (m.class n)) (Err (faults.NotCanonical place)) f e
      (λ small e. not_failed ((IsPast p d × (f ≡ faults.NotCanonical place)) ⊎ (f ≡ faults.Shape place)) (m.class n) f e)
      (λ great e. inl ((n, number_found d n is, ltb-false n p great), sym (err_is {A = F} (faults.NotCanonical place) f e)))

  past_refused : (place : ℕ) (d : Data) → IsPast p d → element_at m place d ≡ Err (faults.NotCanonical place)
  unfolding element_at
  past_refused place d (n, is, great) =
      ap (λ e. element_or m place (as_whole_number e)) is
      ∙ ap (λ b. if b then Ok (m.class n) else Err (faults.NotCanonical place)) (le-ltb n p great)

  with_failed : (place : ℕ) (name : List ℕ) (c : Data) (f : FlatError) → leaf_with m place name c ≡ Err f → OwnLeafFault p place (case_data name c) f ⊎ (f ≡ faults.Shape place)
  unfolding element_at
  with_failed place name c f e =
      let P : Type 0 = OwnLeafFault p place (case_data name c) f ⊎ (f ≡ faults.Shape place) in
      name_failed P name (codes "Variable") _ _ f e
      (λ same e. inr (ok_or_failed _ (faults.Shape place) f e))
      (λ e. name_failed P name (codes "Constant") _ _ f e
      (λ same e.
      ⊎_elim
      (λ (h : IsPast p c × (f ≡ faults.NotCanonical place)). inl ((c, ap (λ t. case_data t c) same, h.0), h.1))
      (λ (h : f ≡ faults.Shape place). inr h)
      (element_failed place c (as_whole_number c) f refl (before_done (element_at m place c) (λ x. leaves.Constant x) f e)))
      (λ e. inr (sym (err_is {A = BaseLeaf F} (faults.Shape place) f e))))

  own_found : (place : ℕ) (d : Data) (f : FlatError) → leaf_at m place d ≡ Err f → OwnLeafFault p place d f ⊎ (f ≡ faults.Shape place)
  unfolding leaf_at
  own_found place d f e =
      text_read (λ x. OwnLeafFault p place x f ⊎ (f ≡ faults.Shape place)) (λ r. r ≡ Err f) (Err (faults.Shape place)) (bare_leaf place) (leaf_with m place) d e
      (λ s e. inr (ok_or_failed _ (faults.Shape place) f e))
      (λ e. inr (sym (err_is {A = BaseLeaf F} (faults.Shape place) f e)))
      (λ name c. with_failed place name c f)

  own_again : (place : ℕ) (d : Data) (f : FlatError) → OwnLeafFault p place d f → leaf_at m place d ≡ Err f
  unfolding leaf_at
  own_again place d f ((c, is, past), h) =
      ap (leaf_at m place) is ∙ ap (λ (r : Result F FlatError). r >>= λ x. ok_of (leaves.Constant x)) (past_refused place c past) ∙ ap (λ g. err_of g) (sym h)

  leaf_written : (d : Data) (a : BaseLeaf F) → WritesLeaf m d a → SpellsLeaf m d a
  leaf_written d (leaves.Variable v) h = (variable_plain.written v, h, variable_laws.is_spelt v)
  leaf_written d leaves.IsFirstRow h = h
  leaf_written d leaves.IsLastRow h = h
  leaf_written d leaves.IsTransition h = h
  leaf_written d (leaves.Constant x) h = (number_data (m.value x), h, refl)

  pub base_kind_laws : KindLaws (base_kind m)
  base_kind_laws = record {
    found = leaf_found;
    again = leaf_again;
    fault_found = leaf_fault_found (SpellsLeaf m) (OwnLeafFault p) (leaf_at m) leaf_found leaf_again own_found own_again;
    fault_again = leaf_fault_again (SpellsLeaf m) (OwnLeafFault p) (leaf_at m) leaf_found leaf_again own_found own_again;
    written = leaf_written;
    once = λ d e a h k. h ∙ sym k;
  }

-- replacing base leaves by their views doesn't change a tree
same_tree : {F : Type 0} (t : Tree (BaseLeaf F)) → map_leaves (base_seen tt) t ≡ t
same_tree (leaf_tree a) = refl
same_tree (add_tree t u) = cc (same_tree t, same_tree u)
same_tree (sub_tree t u) = cc (same_tree t, same_tree u)
same_tree (neg_tree t) = cc (same_tree t)
same_tree (mul_tree t u) = cc (same_tree t, same_tree u)

pub over_same : {F : Type 0} (o : Option (Tree (BaseLeaf F))) → option_map (map_leaves (base_seen tt)) o ≡ o
over_same (Some t) = ap (λ u. Some u) (same_tree t)
over_same None = refl
