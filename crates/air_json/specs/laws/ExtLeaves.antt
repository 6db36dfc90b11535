-- Extension leaves: reading answers exactly the leaf that is spelt, and a leaf's view stays.
use Rattle.std.specs.Prelude.{◌≡◌, ℕ, List, Result, Ok, Err, option_map, codes, ok_or, length, refl}
use Rattle.std.proofs.Common.{sym, ap, ◌∙◌, ◌⊎◌, inl, inr, ⊎_elim}
use Rattle.serde_json.specs.Data.{Data, array}
use Rattle.air_field.specs.Ring.{CommRing, AlgebraOver}
use Rattle.air_field.specs.Extension.{Basis, ExtensionLaws}
use Rattle.air_field.specs.laws.Extension.{padded-whole}
use Rattle.air_field.specs.Modular.{Modular}
use Rattle.air_symbolic.specs.laws.Pools.{tree-kept}
use Rattle.air_symbolic.specs.laws.WholeTrees.{same_leaf}
use Rattle.air_symbolic.specs.BaseLeaves.{base_reads, base_grows}
use Rattle.air_symbolic.specs.laws.BaseLeaves.{base_leaf_laws}
use Rattle.air_symbolic.specs.ExtLeaves.{BaseNodes, ext_grows, ext_reads, ext_valid}
use Rattle.air_symbolic.specs.ExtTrees.{WholeLeaf, whole_base, whole_variable, whole_constant, whole_leaf}
use Rattle.air_symbolic.specs.declared.leaves.ext_leaf.ExtLeaf.{ExtLeaf}
use Rattle.air_symbolic.specs.declared.leaves.ext_leaf.ExtLeaf.TheVariants.{Base, ExtVariable, ExtConstant}
use Rattle.air_json.specs.Results.{◌>>=◌}
use Rattle.air_json.specs.Spelling.{case_data}
use Rattle.air_json.specs.laws.Readings.{map_found, ok_of, done_is, not_done, bind_ok, ok_or_found, name_ok, case_read, err_of, err_is, ok_or_failed, before_done, name_failed}
use Rattle.air_json.specs.ExtEntries.{ext_variable_plain}
use Rattle.air_json.specs.laws.ExtEntries.{ext_variable_laws}
use Rattle.air_json.specs.Coefficients.{number_items, elements_at}
use Rattle.air_json.specs.laws.Coefficients.{elements_found, elements_again, elements_failed, elements_past}
use Rattle.air_json.specs.WholeNumbers.{HasPast}
use Rattle.air_json.specs.laws.LeafFaults.{leaf_fault_found, leaf_fault_again}
use Rattle.air_json.specs.Unshared.{WireLaws}
use Rattle.air_json.specs.Nodes.{KindLaws, root_of}
use Rattle.air_json.specs.laws.Lists.{root_found, root_again, root_fault, root_fault_read}
use Rattle.air_json.specs.laws.Written.{written_list, one_list}
use Rattle.air_json.specs.BaseLeaves.{base_kind}
use Rattle.air_json.specs.laws.BaseLeaves.{base_kind_laws}
use Rattle.air_json.specs.ExtLeaves.{SpellsWhole, WritesWhole, whole_leaf_term, at_place, OwnWholeFault, faults_at, ext_constant_at, ext_leaf_with, ext_leaf_at, ext_kind}
use Rattle.air_json.specs.declared.errors.FlatError.{FlatError}
use Rattle.air_json.specs.declared.errors.FlatError.TheVariants as faults

moved_ok : {A : Type 0} (place : ℕ) (r : Result A FlatError) (t : A) → faults_at place r ≡ Ok t → r ≡ Ok t
moved_ok place (Ok a) t e = e
moved_ok place (Err f) t e = absurd cc

moved_failed : {A : Type 0} (place : ℕ) (r : Result A FlatError) (f : FlatError) → faults_at place r ≡ Err f → (g : FlatError) × (r ≡ Err g) × (f ≡ at_place place g)
moved_failed place (Ok a) f e = absurd cc
moved_failed {A} place (Err g) f e = (g, refl, sym (err_is {A = A} (at_place place g) f e))

-- the view of a leaf stays as the base pool grows
module _ {F EF : Type 0} (r : CommRing F) (basis : Basis F EF) where
  seen-kept : (u v : BaseNodes F) → ext_grows u v → (a : ExtLeaf F EF) → ext_valid u a → whole_leaf v a ≡ whole_leaf u a
  seen-kept u v g (Base i) h = ap (λ t. whole_base t) (tree-kept r base_reads base_grows tt (base_leaf_laws r) u v i g h.here)
  seen-kept u v g (ExtVariable x) h = refl
  seen-kept u v g (ExtConstant c) h = refl

  seen-term : (u : BaseNodes F) (a : ExtLeaf F EF) → whole_leaf_term basis (whole_leaf u a) ≡ (ext_reads basis u).term a
  seen-term u (Base i) = refl
  seen-term u (ExtVariable x) = refl
  seen-term u (ExtConstant c) = refl

  pub ext_wire_laws : WireLaws (ext_reads basis) (λ u v. ext_grows u v) (λ u a. whole_leaf u a) (whole_leaf_term basis)
  ext_wire_laws = record { term_is = seen-term; kept = seen-kept; one = λ u. same_leaf u }

module _ {F EF : Type 0} {p : ℕ} (m : Modular F p) (r : CommRing F) (a : AlgebraOver F EF) (basis : Basis F EF) (count : ℕ) (laws : ExtensionLaws r a basis count) where
  -- the element of a list of `count` coefficients
  extended : (cs : List F) → length cs ≡ count → basis.coefficients (a.extend cs) ≡ cs
  extended cs h = laws.extend_is cs ∙ padded-whole r.zero count cs h

  pub made_of : (e : EF) (cs : List F) → length cs ≡ count → basis.coefficients e ≡ cs → e ≡ a.extend cs
  made_of e cs h is = laws.same e (a.extend cs) (is ∙ sym (extended cs h))

  constant_found : (place : ℕ) (c : Data) (e : EF) → ext_constant_at m a count place c ≡ Ok e → c ≡ array (number_items m (basis.coefficients e))
  constant_found place c e h =
      let cs = bind_ok (elements_at m count place c) (λ cs. ok_of (a.extend cs)) e h in
      let found = elements_found m count place c cs.0 cs.1 in
      done_is (λ x. c ≡ array (number_items m (basis.coefficients x))) (a.extend cs.0) e cs.2 (found.0 ∙ ap (λ l. array (number_items m l)) (sym (extended cs.0 found.1)))

  constant_again : (place : ℕ) (c : Data) (e : EF) → c ≡ array (number_items m (basis.coefficients e)) → ext_constant_at m a count place c ≡ Ok e
  constant_again place c e h =
      ap (λ q. q >>= λ cs. ok_of (a.extend cs)) (elements_again m count place c (basis.coefficients e) h (laws.count e))
      ∙ ap (λ x. ok_of x) (sym (made_of e (basis.coefficients e) (laws.count e) refl))

  ext_leaf_again : (place : ℕ) (d : Data) (l : WholeLeaf F EF) → SpellsWhole m basis d l → ext_leaf_at m a count place d ≡ Ok l
  unfolding ext_leaf_at
  ext_leaf_again place d (whole_base t) h =
      ap (ext_leaf_at m a count place) h.1 ∙ ap (λ q. faults_at place q >>= λ t. ok_of (whole_base t)) (root_again (base_kind m) (base_kind_laws m) h.0 t h.2)
  ext_leaf_again place d (whole_variable v) h =
      ap (ext_leaf_at m a count place) h.1 ∙ ap (λ o. ok_or (option_map (λ w. whole_variable w) o) (faults.Shape place)) (ext_variable_laws.again h.0 v h.2)
  ext_leaf_again place d (whole_constant e) h =
      ap (ext_leaf_at m a count place) h.1 ∙ ap (λ q. q >>= λ e. ok_of (whole_constant e)) (constant_again place h.0 e h.2)

  with_found : (place : ℕ) (name : List ℕ) (c : Data) (l : WholeLeaf F EF) → ext_leaf_with m a count place name c ≡ Ok l → SpellsWhole m basis (case_data name c) l
  with_found place name c l h =
      let P : WholeLeaf F EF → Type 0 = SpellsWhole m basis (case_data name c) in
      name_ok P name (codes "Base") _ _ l h
      (λ same h.
      let t = bind_ok (faults_at place (root_of (base_kind m) c)) (λ t. ok_of (whole_base t)) l h in
      done_is P (whole_base t.0) l t.2 (c, ap (λ n. case_data n c) same, root_found (base_kind m) (base_kind_laws m) c t.0 (moved_ok place (root_of (base_kind m) c) t.0 t.1)))
      (λ h. name_ok P name (codes "ExtVariable") _ _ l h
      (λ same h. map_found P (λ v. whole_variable v) (ext_variable_plain.read c) l (ok_or_found _ _ l h)
      (λ v at. (c, ap (λ n. case_data n c) same, ext_variable_laws.found c v at)))
      (λ h. name_ok P name (codes "ExtConstant") _ _ l h
      (λ same h.
      let e = bind_ok (ext_constant_at m a count place c) (λ e. ok_of (whole_constant e)) l h in
      done_is P (whole_constant e.0) l e.2 (c, ap (λ n. case_data n c) same, constant_found place c e.0 e.1))
      (not_done P (faults.Shape place) l)))

  ext_leaf_found : (place : ℕ) (d : Data) (l : WholeLeaf F EF) → ext_leaf_at m a count place d ≡ Ok l → SpellsWhole m basis d l
  unfolding ext_leaf_at
  ext_leaf_found place d l h =
      case_read (λ x. SpellsWhole m basis x l) (λ r. r ≡ Ok l) (Err (faults.Shape place)) (ext_leaf_with m a count place) d h
      (not_done (SpellsWhole m basis d) (faults.Shape place) l) (λ name c. with_found place name c l)

  -- ---- faults

  with_failed : (place : ℕ) (name : List ℕ) (c : Data) (f : FlatError) → ext_leaf_with m a count place name c ≡ Err f → OwnWholeFault m count place (case_data name c) f ⊎ (f ≡ faults.Shape place)
  with_failed place name c f e =
      let P : Type 0 = OwnWholeFault m count place (case_data name c) f ⊎ (f ≡ faults.Shape place) in
      name_failed P name (codes "Base") _ _ f e
      (λ same e.
      let g = moved_failed place (root_of (base_kind m) c) f (before_done (faults_at place (root_of (base_kind m) c)) (λ t. whole_base t) f e) in
      inl (inl (c, ap (λ n. case_data n c) same, (g.0, root_fault (base_kind m) (base_kind_laws m) c g.0 g.1, g.2))))
      (λ e. name_failed P name (codes "ExtVariable") _ _ f e
      (λ same e. inr (ok_or_failed _ (faults.Shape place) f e))
      (λ e. name_failed P name (codes "ExtConstant") _ _ f e
      (λ same e.
      ⊎_elim
      (λ (h : HasPast p count c × (f ≡ faults.NotCanonical place)). inl (inr ((c, ap (λ n. case_data n c) same, h.0), h.1)))
      (λ (h : f ≡ faults.Shape place). inr h)
      (elements_failed m count place c f (before_done (elements_at m count place c) (λ cs. a.extend cs) f (before_done (ext_constant_at m a count place c) (λ e. whole_constant e) f e))))
      (λ e. inr (sym (err_is {A = WholeLeaf F EF} (faults.Shape place) f e)))))

  own_found : (place : ℕ) (d : Data) (f : FlatError) → ext_leaf_at m a count place d ≡ Err f → OwnWholeFault m count place d f ⊎ (f ≡ faults.Shape place)
  unfolding ext_leaf_at
  own_found place d f e =
      case_read (λ x. OwnWholeFault m count place x f ⊎ (f ≡ faults.Shape place)) (λ r. r ≡ Err f) (Err (faults.Shape place)) (ext_leaf_with m a count place) d e
      (λ e. inr (sym (err_is {A = WholeLeaf F EF} (faults.Shape place) f e)))
      (λ name c. with_failed place name c f)

  own_again : (place : ℕ) (d : Data) (f : FlatError) → OwnWholeFault m count place d f → ext_leaf_at m a count place d ≡ Err f
  unfolding ext_leaf_at
  own_again place d f (inl (c, is, (g, bad, h))) =
      ap (ext_leaf_at m a count place) is ∙ ap (λ q. faults_at place q >>= λ t. ok_of (whole_base t)) (root_fault_read (base_kind m) (base_kind_laws m) c g bad) ∙ ap (λ k. err_of k) (sym h)
  own_again place d f (inr ((c, is, past), h)) =
      ap (ext_leaf_at m a count place) is
      ∙ ap (λ (q : Result (List F) FlatError). (q >>= λ cs. ok_of (a.extend cs)) >>= λ e. ok_of (whole_constant e)) (elements_past m count place c past)
      ∙ ap (λ k. err_of k) (sym h)

  ext_leaf_written : (d : Data) (l : WholeLeaf F EF) → WritesWhole m basis d l → SpellsWhole m basis d l
  ext_leaf_written d (whole_base t) h = (h.0, h.1, written_list (base_kind m) (base_kind_laws m) h.0 t h.2)
  ext_leaf_written d (whole_variable v) h = (ext_variable_plain.written v, h, ext_variable_laws.is_spelt v)
  ext_leaf_written d (whole_constant e) h = (array (number_items m (basis.coefficients e)), h, refl)

  ext_leaf_once : (d e : Data) (l : WholeLeaf F EF) → WritesWhole m basis d l → WritesWhole m basis e l → d ≡ e
  ext_leaf_once d e (whole_base t) h k = h.1 ∙ ap (case_data (codes "Base")) (one_list (base_kind m) (base_kind_laws m) h.0 k.0 t h.2 k.2) ∙ sym k.1
  ext_leaf_once d e (whole_variable v) h k = h ∙ sym k
  ext_leaf_once d e (whole_constant x) h k = h ∙ sym k

  pub ext_kind_laws : KindLaws (ext_kind m a basis count)
  ext_kind_laws = record {
    found = ext_leaf_found;
    again = ext_leaf_again;
    fault_found = leaf_fault_found (SpellsWhole m basis) (OwnWholeFault m count) (ext_leaf_at m a count) ext_leaf_found ext_leaf_again own_found own_again;
    fault_again = leaf_fault_again (SpellsWhole m basis) (OwnWholeFault m count) (ext_leaf_at m a count) ext_leaf_found ext_leaf_again own_found own_again;
    written = ext_leaf_written;
    once = ext_leaf_once;
  }
