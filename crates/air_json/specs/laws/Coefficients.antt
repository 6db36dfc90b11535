-- Reading a list of field elements answers exactly the list that is spelt.
use Rattle.std.specs.Prelude.{◌≡◌, ℕ, ◌&&◌, Bool, true, false, List, [], ◌∷◌, map, length, Option, Some, None, Ok, Err, option_map, option_and_then, if◌then◌else◌, ok_or, refl}
use Rattle.std.specs.List.{list_all}
use Rattle.std.proofs.Common.{sym, ap, ap₂, ◌∙◌, arith, eqb, rules, tests, ◌⊎◌, inl, inr}
use Rattle.std.proofs.lemmas.Bool.{ltb-true, ltb-false, lt-ltb, le-ltb, eqb-true}
use Rattle.std.proofs.Math.Nat.{mod-eq_of_lt}
use Rattle.serde_json.specs.Data.{Data, null, boolean, number, string, object, array, Items, no_items, item}
use Rattle.serde_json.specs.Find.{as_array}
use Rattle.air_field.specs.Modular.{Modular}
use Rattle.air_field.specs.laws.Modular.{class_of}
use Rattle.air_json.specs.Parts.{as_whole_number}
use Rattle.air_json.specs.Results.{◌>>=◌}
use Rattle.air_json.specs.Spelling.{number_data}
use Rattle.air_json.specs.laws.Readings.{ok_of, done_is, not_done, bind_ok, ok_or_found, test_ok, number_found, err_is, not_failed, ok_or_failed, bind_failed, test_failed}
use Rattle.air_json.specs.WholeNumbers.{wholes_data, SomePast, HasPast}
use Rattle.air_json.specs.laws.WholeNumbers.{whole_items_found, whole_items_again}
use Rattle.air_json.specs.declared.errors.FlatError.{FlatError}
use Rattle.air_json.specs.declared.errors.FlatError.TheVariants as faults
use Rattle.air_json.specs.Coefficients.{number_items, wholes, is_canonical, if_count, if_canonical, elements_at}

both_true : (a b : Bool) → a && b ≡ true → (a ≡ true) × (b ≡ true)
both_true true b e = (refl, e)
both_true false b e = absurd cc

some_list : (m : List ℕ) (ns : List ℕ) → Some m ≡ Some ns → m ≡ ns
some_list m ns e = cc

same_number : (m n : ℕ) → m ≡ n → eqb m n ≡ true
same_number m n h = search (rules, tests)

pub as_array_is : (d : Data) (ds : Items) → as_array d ≡ Some ds → d ≡ array ds
as_array_is null ds e = absurd cc
as_array_is (boolean b) ds e = absurd cc
as_array_is (number n) ds e = absurd cc
as_array_is (string s) ds e = absurd cc
as_array_is (array es) ds e = ap (λ o. elim o as (λ _. Data) [ Some x ↦ array x | None ↦ array es ]) e
as_array_is (object ms) ds e = absurd cc

not_both : (b : Bool) → b && false ≡ false
not_both true = refl
not_both false = refl

module _ {F : Type 0} {p : ℕ} (m : Modular F p) where
  abbrev residues : List F → List ℕ
  residues [] = []
  residues (c ∷ cs) = m.value c ∷ residues cs

  items_found_of : (d : Data) (ds : Items) (o : Option ℕ) (later : Option (List ℕ)) (ns : List ℕ)
      → ((ms : List ℕ) → later ≡ Some ms → list_all (is_canonical p) ms ≡ true → ds ≡ number_items m (map m.class ms))
      → as_whole_number d ≡ o
      → option_and_then (λ n. option_map (λ ns. n ∷ ns) later) o ≡ Some ns → list_all (is_canonical p) ns ≡ true → item d ds ≡ number_items m (map m.class ns)
  items_found_of d ds None p ns later is e h = absurd cc
  items_found_of d ds (Some n) None ns later is e h = absurd cc
  items_found_of d ds (Some n) (Some ms) ns later is e h =
      let same : n ∷ ms ≡ ns = some_list (n ∷ ms) ns e in
      let all = both_true (is_canonical p n) (list_all (is_canonical p) ms) (ap (list_all (is_canonical p)) same ∙ h) in
      let first : d ≡ number_data (m.value (m.class n)) = number_found d n is ∙ ap number_data (sym (m.value_class n ∙ mod-eq_of_lt (ltb-true n p all.0))) in
      ap₂ (λ x xs. item x xs) first (later ms refl all.1) ∙ ap (λ ks. number_items m (map m.class ks)) same

  items_found : (ds : Items) (ns : List ℕ) → wholes ds ≡ Some ns → list_all (is_canonical p) ns ≡ true → ds ≡ number_items m (map m.class ns)
  unfolding wholes
  items_found no_items ns e h = ap (λ ks. number_items m (map m.class ks)) (some_list [] ns e)
  items_found (item d ds) ns e h = items_found_of d ds (as_whole_number d) (wholes ds) ns (items_found ds) refl e h

  items_read : (cs : List F) → wholes (number_items m cs) ≡ Some (residues cs)
  unfolding wholes
  items_read [] = refl
  items_read (c ∷ cs) = ap (option_map (λ ns. m.value c ∷ ns)) (items_read cs)

  residues_canonical : (cs : List F) → list_all (is_canonical p) (residues cs) ≡ true
  residues_canonical [] = refl
  residues_canonical (c ∷ cs) = ap₂ (λ a b. a && b) (lt-ltb (m.value c) p (m.bound c)) (residues_canonical cs)

  residues_again : (cs : List F) → map m.class (residues cs) ≡ cs
  residues_again [] = refl
  residues_again (c ∷ cs) = ap₂ (λ a b. a ∷ b) (class_of m c) (residues_again cs)

  residues_length : (cs : List F) → length (residues cs) ≡ length cs
  residues_length [] = refl
  residues_length (c ∷ cs) = omega (arith, residues_length cs)

  class_length : (ns : List ℕ) → length (map m.class ns) ≡ length ns
  class_length [] = refl
  class_length (n ∷ ns) = omega (arith, class_length ns)

  pub elements_found : (count place : ℕ) (d : Data) (cs : List F) → elements_at m count place d ≡ Ok cs → (d ≡ array (number_items m cs)) × (length cs ≡ count)
  unfolding elements_at
  elements_found count place d cs e =
      let ds = bind_ok (ok_or (as_array d) (faults.Shape place)) (λ ds. ok_or (wholes ds) (faults.Shape place) >>= λ ns. if_count count place ns >>= λ all. if_canonical m place all) cs e in
      let ns = bind_ok (ok_or (wholes ds.0) (faults.Shape place)) (λ ns. if_count count place ns >>= λ all. if_canonical m place all) cs ds.2 in
      let all = bind_ok (if_count count place ns.0) (λ all. if_canonical m place all) cs ns.2 in
      let counted = test_ok (λ v. (ns.0 ≡ v) × (length ns.0 ≡ count)) (eqb (length ns.0) count) (Ok ns.0)
      (Err (faults.Shape place)) all.0 all.1
      (λ same e. done_is (λ v. (ns.0 ≡ v) × (length ns.0 ≡ count)) ns.0 all.0 e
      (refl, eqb-true (length ns.0) count same))
      (not_done (λ v. (ns.0 ≡ v) × (length ns.0 ≡ count)) (faults.Shape place) all.0) in
      test_ok (λ v. (d ≡ array (number_items m v)) × (length v ≡ count)) (list_all (is_canonical p) all.0) (Ok (map m.class all.0)) (Err (faults.NotCanonical place)) cs all.2
      (λ good e. done_is (λ v. (d ≡ array (number_items m v)) × (length v ≡ count)) (map m.class all.0) cs e (
        as_array_is d ds.0 (ok_or_found (as_array d) (faults.Shape place) ds.0 ds.1)
            ∙ ap (λ x. array x)
            (items_found ds.0 all.0
            (ok_or_found (wholes ds.0) (faults.Shape place) ns.0 ns.1 ∙ ap (λ l. Some l) counted.0) good),
        class_length all.0 ∙ (ap length (sym counted.0) ∙ counted.1),
      ))
      (not_done (λ v. (d ≡ array (number_items m v)) × (length v ≡ count)) (faults.NotCanonical place) cs)

  pub elements_again : (count place : ℕ) (d : Data) (cs : List F) → d ≡ array (number_items m cs) → length cs ≡ count → elements_at m count place d ≡ Ok cs
  unfolding elements_at
  elements_again count place d cs is len =
      ap (λ x. ok_or (as_array x) (faults.Shape place) >>= λ ds. ok_or (wholes ds) (faults.Shape place) >>= λ ns. if_count count place ns >>= λ all. if_canonical m place all) is
      ∙ ap (λ o. ok_or o (faults.Shape place) >>= λ ns. if_count count place ns >>= λ all. if_canonical m place all) (items_read cs)
      ∙ ap (λ b. (if b then ok_of (residues cs) else Err (faults.Shape place)) >>= λ all. if_canonical m place all) (same_number (length (residues cs)) count (residues_length cs ∙ len))
      ∙ ap (λ b. if b then Ok (map m.class (residues cs)) else Err (faults.NotCanonical place)) (residues_canonical cs)
      ∙ ap (λ v. ok_of v) (residues_again cs)

  -- ---- lists that can't be read

  some_past : (ns : List ℕ) → list_all (is_canonical p) ns ≡ false → SomePast p ns
  some_past [] e = absurd cc
  some_past (n ∷ ns) e = go (some_past ns) (is_canonical p n) refl e
    where
      go : (list_all (is_canonical p) ns ≡ false → SomePast p ns) → (b : Bool) → is_canonical p n ≡ b → b && list_all (is_canonical p) ns ≡ false → SomePast p (n ∷ ns)
      go later true is e = inr (later e)
      go later false is e = inl (ltb-false n p is)

  past_some : (ns : List ℕ) → SomePast p ns → list_all (is_canonical p) ns ≡ false
  past_some [] h = absurd h
  past_some (n ∷ ns) (inl h) = ap (λ b. b && list_all (is_canonical p) ns) (le-ltb n p h)
  past_some (n ∷ ns) (inr h) = ap (λ b. is_canonical p n && b) (past_some ns h) ∙ not_both (is_canonical p n)

  pub elements_failed : (count place : ℕ) (d : Data) (f : FlatError) → elements_at m count place d ≡ Err f → (HasPast p count d × (f ≡ faults.NotCanonical place)) ⊎ (f ≡ faults.Shape place)
  unfolding elements_at
  elements_failed count place d f e =
      let P : Type 0 = (HasPast p count d × (f ≡ faults.NotCanonical place)) ⊎ (f ≡ faults.Shape place) in
      bind_failed P (ok_or (as_array d) (faults.Shape place)) (λ ds. ok_or (wholes ds) (faults.Shape place) >>= λ ns. if_count count place ns >>= λ all. if_canonical m place all) f e
      (λ e. inr (ok_or_failed (as_array d) (faults.Shape place) f e))
      (λ ds at e. bind_failed P (ok_or (wholes ds) (faults.Shape place)) (λ ns. if_count count place ns >>= λ all. if_canonical m place all) f e
      (λ e. inr (ok_or_failed (wholes ds) (faults.Shape place) f e))
      (λ ns read e. bind_failed P (if_count count place ns) (λ all. if_canonical m place all) f e
      (λ e. test_failed P (eqb (length ns) count) (Ok ns) (Err (faults.Shape place)) f e
      (λ _ e. not_failed P ns f e) (λ _ e. inr (sym (err_is {A = List ℕ} (faults.Shape place) f e))))
      (λ all counted e. test_failed P (list_all (is_canonical p) all) (Ok (map m.class all)) (Err (faults.NotCanonical place)) f e
      (λ _ e. not_failed P (map m.class all) f e)
      (λ bad e.
      let same = test_ok (λ v. (ns ≡ v) × (length ns ≡ count)) (eqb (length ns) count) (Ok ns) (Err (faults.Shape place)) all counted
      (λ same e. done_is (λ v. (ns ≡ v) × (length ns ≡ count)) ns all e (refl, eqb-true (length ns) count same))
      (not_done (λ v. (ns ≡ v) × (length ns ≡ count)) (faults.Shape place) all) in
      let items = whole_items_found ds ns (ok_or_found (wholes ds) (faults.Shape place) ns read) in
      inl (
        (
          all,
          as_array_is d ds (ok_or_found (as_array d) (faults.Shape place) ds at) ∙ ap (λ x. array x) items ∙ ap wholes_data same.0,
          ap length (sym same.0) ∙ same.1,
          some_past all bad,
        ),
        sym (err_is {A = List F} (faults.NotCanonical place) f e),
      )))))

  pub elements_past : (count place : ℕ) (d : Data) → HasPast p count d → elements_at m count place d ≡ Err (faults.NotCanonical place)
  unfolding elements_at
  elements_past count place d (ns, is, len, some) =
      ap (λ x. ok_or (as_array x) (faults.Shape place) >>= λ ds. ok_or (wholes ds) (faults.Shape place) >>= λ ns. if_count count place ns >>= λ all. if_canonical m place all) is
      ∙ ap (λ o. ok_or o (faults.Shape place) >>= λ ns. if_count count place ns >>= λ all. if_canonical m place all) (whole_items_again ns)
      ∙ ap (λ b. (if b then ok_of ns else Err (faults.Shape place)) >>= λ all. if_canonical m place all) (same_number (length ns) count len)
      ∙ ap (λ b. if b then Ok (map m.class ns) else Err (faults.NotCanonical place)) (past_some ns some)
