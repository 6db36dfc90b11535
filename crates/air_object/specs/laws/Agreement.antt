-- Readers that answer exactly what data spell, and refuse with exactly the first fault.
use Rattle.std.proofs.Common.{◌≡◌, ℕ, ◌<◌, ◌≤◌, Bool, true, false, List, [], ◌∷◌, ◌++◌, length, append_assoc, ◌||◌, is_some, if◌then◌else◌, Option, Some, None, Result, Ok, Err, refl, sym, ap, subst, ◌∙◌, inl, inr}
use Rattle.std.specs.Prelude.{nat_lt}
use Rattle.std.proofs.lemmas.Bool.{ltb-true, ltb-false, lt-ltb, le-ltb}
use Rattle.std.proofs.lemmas.List.{append-nil}
use Rattle.serde_json.specs.Data.{Data, Items, no_items, item}
use Rattle.serde_json.specs.Find.{get, as_array}
use Rattle.air_json.specs.declared.errors.FlatError.{FlatError}
use Rattle.air_json.specs.declared.errors.FlatError.TheVariants as faults
use Rattle.air_json.specs.Results.{◌>>=◌}
use Rattle.air_json.specs.laws.Readings.{ok_of, done_is, err_of, err_is, bind_ok, ok_or_found}
use Rattle.air_object.specs.Objects.{Grammar, by_form, AllSpell, FirstElementFault, list_of, at_most, needed_member, optional_member, then_member, given, both_members, both_or_none}
use Rattle.air_object.specs.Readers.{Reader, or_wrong_form, each_from, list_read, if_at_most, needed_read, or_absent, optional_read, both_read, if_either}

pub record Agrees {X : Type 0} (g : Grammar X) (read : Reader X) : Type 0 where
  pub found : (d : Data) (x : X) → read d ≡ Ok x → g.spells d x
  pub again : (d : Data) (x : X) → g.spells d x → read d ≡ Ok x
  pub fault : (d : Data) (f : FlatError) → read d ≡ Err f → g.fault d f
  pub refused : (d : Data) (f : FlatError) → g.fault d f → read d ≡ Err f

some_is : {A : Type 0} (x y : A) → Some x ≡ Some y → x ≡ y
some_is x y e = cc

-- ---- values of one form

module _ {X : Type 0} (spells : Data → X → Type 0) (find : Data → Option X) (found : (d : Data) (x : X) → find d ≡ Some x → spells d x) (again : (d : Data) (x : X) → spells d x → find d ≡ Some x) where
  pub by_form_agrees : Agrees (by_form spells) (λ d. or_wrong_form (find d))
  by_form_agrees = record {
    found = λ d x e. found d x (ok_or_found (find d) (faults.Shape 0) x e);
    again = λ d x h. ap (λ o. or_wrong_form o) (again d x h);
    fault = λ d f e. nothing d f (find d) refl e;
    refused = λ d f h. refusal d (find d) refl h.0 ∙ ap (λ g. err_of g) (sym h.1);
  }
    where
      nothing : (d : Data) (f : FlatError) (o : Option X) → find d ≡ o → or_wrong_form o ≡ Err f → (by_form spells).fault d f
      nothing d f None is e = ((λ x h. absurd (cc (sym is ∙ again d x h))), sym (err_is (faults.Shape 0) f e))
      nothing d f (Some x) is e = absurd cc

      refusal : (d : Data) (o : Option X) → find d ≡ o → ((x : X) → spells d x → ⊥) → or_wrong_form (find d) ≡ err_of (faults.Shape 0)
      refusal d None is none = ap (λ o. or_wrong_form o) is
      refusal d (Some x) is none = absurd (none x (found d x is))

-- ---- lists

module _ {X : Type 0} (g : Grammar X) (read : Reader X) (agrees : Agrees g read) where
  each_found : (before : List X) (ds : Items) (xs : List X) → each_from read before ds ≡ Ok xs → (ys : List X) × (xs ≡ before ++ ys) × AllSpell g ds ys
  unfolding each_from
  each_found before no_items xs e = ([], done_is (λ v. v ≡ before ++ []) before xs e (sym (append-nil before)), tt)
  each_found before (item d ds) xs e =
      let x = bind_ok (read d) (λ x. each_from read (before ++ x ∷ []) ds) xs e in
      let r = each_found (before ++ x.0 ∷ []) ds xs x.2 in
      (x.0 ∷ r.0, r.1 ∙ append_assoc before (x.0 ∷ []) r.0, (agrees.found d x.0 x.1, r.2))

  each_again : (before : List X) (ds : Items) (xs : List X) → AllSpell g ds xs → each_from read before ds ≡ Ok (before ++ xs)
  unfolding each_from
  each_again before no_items [] h = ap (λ v. ok_of v) (sym (append-nil before))
  each_again before no_items (x ∷ xs) h = absurd h
  each_again before (item d ds) [] h = absurd h
  each_again before (item d ds) (x ∷ xs) h =
      ap (λ (r : Result X FlatError). r >>= λ y. each_from read (before ++ y ∷ []) ds) (agrees.again d x h.0)
      ∙ each_again (before ++ x ∷ []) ds xs h.1 ∙ ap (λ v. ok_of v) (append_assoc before (x ∷ []) xs)

  each_fault : (before : List X) (ds : Items) (f : FlatError) → each_from read before ds ≡ Err f → FirstElementFault g ds f
  unfolding each_from
  each_fault before no_items f e = absurd cc
  each_fault before (item d ds) f e = at_item (λ x. each_fault (before ++ x ∷ []) ds f) (read d) refl e
    where
      at_item : ((x : X) → each_from read (before ++ x ∷ []) ds ≡ Err f → FirstElementFault g ds f) → (r : Result X FlatError) → read d ≡ r → (r >>= λ x. each_from read (before ++ x ∷ []) ds) ≡ Err f → FirstElementFault g (item d ds) f
      at_item later (Ok x) is e = inr (x, agrees.found d x is, later x e)
      at_item later (Err h) is e = inl (agrees.fault d f (is ∙ ap (λ k. err_of k) (err_is h f e)))

  each_refused : (before : List X) (ds : Items) (f : FlatError) → FirstElementFault g ds f → each_from read before ds ≡ Err f
  unfolding each_from
  each_refused before no_items f h = absurd h
  each_refused before (item d ds) f (inl h) = ap (λ (r : Result X FlatError). r >>= λ x. each_from read (before ++ x ∷ []) ds) (agrees.refused d f h)
  each_refused before (item d ds) f (inr h) =
      ap (λ (r : Result X FlatError). r >>= λ x. each_from read (before ++ x ∷ []) ds) (agrees.again d h.0 h.1) ∙ each_refused (before ++ h.0 ∷ []) ds f h.2

  abbrev of_items : Option Items → Result (List X) FlatError
  of_items o = or_wrong_form o >>= λ ds. each_from read [] ds

  list_fault : (d : Data) (f : FlatError) (o : Option Items) → as_array d ≡ o → of_items o ≡ Err f → (list_of g).fault d f
  list_fault d f None is e = inl (is, sym (err_is (faults.Shape 0) f e))
  list_fault d f (Some ds) is e = inr (ds, is, each_fault [] ds f e)

  list_refused : (d : Data) (f : FlatError) → (list_of g).fault d f → list_read read d ≡ Err f
  list_refused d f (inl h) = ap of_items h.0 ∙ ap (λ k. err_of k) (sym h.1)
  list_refused d f (inr h) = ap of_items h.1 ∙ each_refused [] h.0 f h.2

  list_found : (d : Data) (xs : List X) → list_read read d ≡ Ok xs → (list_of g).spells d xs
  list_found d xs e =
      let ds = bind_ok (or_wrong_form (as_array d)) (λ ds. each_from read [] ds) xs e in
      let r = each_found [] ds.0 xs ds.2 in
      (ds.0, ok_or_found (as_array d) (faults.Shape 0) ds.0 ds.1, subst (AllSpell g ds.0) (sym r.1) r.2)

  pub list_agrees : Agrees (list_of g) (list_read read)
  list_agrees = record {
    found = list_found;
    again = λ d xs h. ap of_items h.1 ∙ each_again [] h.0 xs h.2;
    fault = λ d f e. list_fault d f (as_array d) refl e;
    refused = list_refused;
  }

module _ {X : Type 0} (n : ℕ) (g : Grammar (List X)) (read : Reader (List X)) (agrees : Agrees g read) where
  -- by whether there are too many
  abbrev by_count : List X → Bool → Result (List X) FlatError
  by_count xs more = if more then Err (faults.Shape 0) else Ok xs

  few : (xs ys : List X) (more : Bool) → nat_lt n (length xs) ≡ more → by_count xs more ≡ Ok ys → (ys ≡ xs) × (length xs ≤ n)
  few xs ys true is e = absurd cc
  few xs ys false is e = (done_is (λ zs. zs ≡ xs) xs ys e refl, ltb-false n (length xs) is)

  many : (xs : List X) (f : FlatError) (more : Bool) → nat_lt n (length xs) ≡ more → by_count xs more ≡ Err f → (n < length xs) × (f ≡ faults.Shape 0)
  many xs f true is e = (ltb-true n (length xs) is, sym (err_is (faults.Shape 0) f e))
  many xs f false is e = absurd cc

  most_found : (d : Data) (xs : List X) → (read d >>= if_at_most n) ≡ Ok xs → (at_most n g).spells d xs
  most_found d xs e =
      let r = bind_ok (read d) (if_at_most n) xs e in
      let both = few r.0 xs (nat_lt n (length r.0)) refl r.2 in
      subst (λ ys. g.spells d ys × (length ys ≤ n)) (sym both.0) (agrees.found d r.0 r.1, both.1)

  most_fault : (d : Data) (f : FlatError) (r : Result (List X) FlatError) → read d ≡ r → (r >>= if_at_most n) ≡ Err f → (at_most n g).fault d f
  most_fault d f (Err k) is e = inl (agrees.fault d f (is ∙ ap (λ k. err_of k) (err_is k f e)))
  most_fault d f (Ok xs) is e =
      let both = many xs f (nat_lt n (length xs)) refl e in
      inr (xs, agrees.found d xs is, both.0, both.1)

  most_refused : (d : Data) (f : FlatError) → (at_most n g).fault d f → (read d >>= if_at_most n) ≡ Err f
  most_refused d f (inl k) = ap (λ r. r >>= if_at_most n) (agrees.refused d f k)
  most_refused d f (inr k) = ap (λ r. r >>= if_at_most n) (agrees.again d k.0 k.1) ∙ ap (by_count k.0) (lt-ltb n (length k.0) k.2) ∙ ap (λ g. err_of g) (sym k.3)

  pub at_most_agrees : Agrees (at_most n g) (λ d. read d >>= if_at_most n)
  at_most_agrees = record {
    found = most_found;
    again = λ d xs h. ap (λ r. r >>= if_at_most n) (agrees.again d xs h.0) ∙ ap (by_count xs) (le-ltb n (length xs) h.1);
    fault = λ d f e. most_fault d f (read d) refl e;
    refused = most_refused;
  }

-- ---- members

module _ {X : Type 0} (name : List ℕ) (g : Grammar X) (read : Reader X) (agrees : Agrees g read) where
  needed_found : (d : Data) (x : X) → needed_read name read d ≡ Ok x → (needed_member name g).spells d x
  needed_found d x e =
      let c = bind_ok (or_wrong_form (get name d)) read x e in
      (c.0, ok_or_found (get name d) (faults.Shape 0) c.0 c.1, agrees.found c.0 x c.2)

  needed_fault : (d : Data) (f : FlatError) (o : Option Data) → get name d ≡ o → (or_wrong_form o >>= read) ≡ Err f → (needed_member name g).fault d f
  needed_fault d f None is e = inl (is, sym (err_is (faults.Shape 0) f e))
  needed_fault d f (Some c) is e = inr (c, is, agrees.fault c f e)

  needed_refused : (d : Data) (f : FlatError) → (needed_member name g).fault d f → needed_read name read d ≡ Err f
  needed_refused d f (inl h) = ap (λ o. or_wrong_form o >>= read) h.0 ∙ ap (λ k. err_of k) (sym h.1)
  needed_refused d f (inr h) = ap (λ o. or_wrong_form o >>= read) h.1 ∙ agrees.refused h.0 f h.2

  pub needed_agrees : Agrees (needed_member name g) (needed_read name read)
  needed_agrees = record {
    found = needed_found;
    again = λ d x h. ap (λ o. or_wrong_form o >>= read) h.1 ∙ agrees.again h.0 x h.2;
    fault = λ d f e. needed_fault d f (get name d) refl e;
    refused = needed_refused;
  }

  module _ (absent : X) where
    optional_found : (d : Data) (x : X) (o : Option Data) → get name d ≡ o → or_absent absent read o ≡ Ok x → (optional_member name absent g).spells d x
    optional_found d x None is e = inl (is, done_is (λ y. y ≡ absent) absent x e refl)
    optional_found d x (Some c) is e = inr (c, is, agrees.found c x e)

    optional_again : (d : Data) (x : X) → (optional_member name absent g).spells d x → optional_read name absent read d ≡ Ok x
    optional_again d x (inl h) = ap (or_absent absent read) h.0 ∙ ap (λ y. ok_of y) (sym h.1)
    optional_again d x (inr h) = ap (or_absent absent read) h.1 ∙ agrees.again h.0 x h.2

    optional_fault : (d : Data) (f : FlatError) (o : Option Data) → get name d ≡ o → or_absent absent read o ≡ Err f → (optional_member name absent g).fault d f
    optional_fault d f None is e = absurd cc
    optional_fault d f (Some c) is e = (c, is, agrees.fault c f e)

    pub optional_agrees : Agrees (optional_member name absent g) (optional_read name absent read)
    optional_agrees = record {
      found = λ d x e. optional_found d x (get name d) refl e;
      again = optional_again;
      fault = λ d f e. optional_fault d f (get name d) refl e;
      refused = λ d f h. ap (or_absent absent read) h.1 ∙ agrees.refused h.0 f h.2;
    }

-- a value that the data don't determine
pub given_agrees : {X : Type 0} (x : X) → Agrees (given x) (λ d. ok_of x)
given_agrees x = record {
  found = λ d y e. done_is (λ z. z ≡ x) x y e refl;
  again = λ d y h. ap (λ z. ok_of z) (sym h);
  fault = λ d f e. absurd cc;
  refused = λ d f h. absurd h;
}

module _ {X Y : Type 0} (g : Grammar X) (read : Reader X) (agrees : Agrees g read) (h : X → Grammar Y) (next : X → Reader Y) (agree : (x : X) → Agrees (h x) (next x)) where
  abbrev and_next : Data → Result X FlatError → Result Y FlatError
  and_next d r = r >>= λ x. next x d

  then_found : (d : Data) (y : Y) → and_next d (read d) ≡ Ok y → (then_member g h).spells d y
  then_found d y e =
      let x = bind_ok (read d) (λ x. next x d) y e in
      (x.0, agrees.found d x.0 x.1, (agree x.0).found d y x.2)

  then_fault : (d : Data) (f : FlatError) (r : Result X FlatError) → read d ≡ r → and_next d r ≡ Err f → (then_member g h).fault d f
  then_fault d f (Err k) is e = inl (agrees.fault d f (is ∙ ap (λ k. err_of k) (err_is k f e)))
  then_fault d f (Ok x) is e = inr (x, agrees.found d x is, (agree x).fault d f e)

  then_refused : (d : Data) (f : FlatError) → (then_member g h).fault d f → and_next d (read d) ≡ Err f
  then_refused d f (inl k) = ap (and_next d) (agrees.refused d f k)
  then_refused d f (inr k) = ap (and_next d) (agrees.again d k.0 k.1) ∙ (agree k.0).refused d f k.2

  -- two readers in turn, where the result of the first determines the second
  pub then_agrees : Agrees (then_member g h) (λ d. read d >>= λ x. next x d)
  then_agrees = record {
    found = then_found;
    again = λ d y k. ap (and_next d) (agrees.again d k.0 k.1) ∙ (agree k.0).again d y k.2;
    fault = λ d f e. then_fault d f (read d) refl e;
    refused = then_refused;
  }

pub both_agree : {X Y : Type 0} (g : Grammar X) (read : Reader X) → Agrees g read → (h : Grammar Y) (next : Reader Y) → Agrees h next
    → Agrees (both_members g h) (both_read read next)
both_agree g read agrees h next agree =
    then_agrees g read agrees _ (λ x d. next d >>= λ y. ok_of (x, y)) (λ x. then_agrees h next agree _ (λ y d. ok_of (x, y)) (λ y. given_agrees (x, y)))

-- ---- both members or none

module _ {X Y : Type 0} (one other : List ℕ) (g : Grammar X) (h : Grammar Y) (read : Reader (X × Y)) (agrees : Agrees (both_members (needed_member one g) (needed_member other h)) read) where
  abbrev either : Grammar (Option (X × Y))
  either = both_or_none one g other h

  abbrev some_of : Result (X × Y) FlatError → Result (Option (X × Y)) FlatError
  some_of r = r >>= λ p. Ok (Some p)

  abbrev of_either : Result (X × Y) FlatError → Option Data → Option Data → Result (Option (X × Y)) FlatError
  of_either r a b = if is_some a || is_some b then some_of r else Ok None

  some_found : (d : Data) (o : Option (X × Y)) (r : Result (X × Y) FlatError) → read d ≡ r → some_of r ≡ Ok o → either.spells d o
  some_found d o (Ok p) is e = inr (p, agrees.found d p is, done_is (λ v. v ≡ Some p) (Some p) o e refl)
  some_found d o (Err f) is e = absurd cc

  either_found : (d : Data) (o : Option (X × Y)) (a b : Option Data) → get one d ≡ a → get other d ≡ b → of_either (read d) a b ≡ Ok o → either.spells d o
  either_found d o None None at by e = inl (at, by, done_is (λ v. v ≡ None) None o e refl)
  either_found d o (Some c) b at by e = some_found d o (read d) refl e
  either_found d o None (Some c) at by e = some_found d o (read d) refl e

  -- if the first member is present
  first_there : (d : Data) (c : Data) → get one d ≡ Some c → if_either one other read d ≡ some_of (read d)
  first_there d c at = ap (λ a. of_either (read d) a (get other d)) at

  either_again : (d : Data) (o : Option (X × Y)) → either.spells d o → if_either one other read d ≡ Ok o
  either_again d o (inl k) = ap (λ a. of_either (read d) a (get other d)) k.0 ∙ ap (λ b. of_either (read d) None b) k.1 ∙ ap (λ v. ok_of v) (sym k.2)
  either_again d o (inr k) = first_there d k.1.1.0 k.1.1.1 ∙ ap some_of (agrees.again d k.0 k.1) ∙ ap (λ v. ok_of v) (sym k.2)

  some_fault : (f : FlatError) (r : Result (X × Y) FlatError) → some_of r ≡ Err f → r ≡ Err f
  some_fault f (Ok p) e = absurd cc
  some_fault f (Err k) e = ap (λ k. err_of k) (err_is k f e)

  either_fault : (d : Data) (f : FlatError) (a b : Option Data) → get one d ≡ a → get other d ≡ b → of_either (read d) a b ≡ Err f → either.fault d f
  either_fault d f None None at by e = absurd cc
  either_fault d f (Some c) b at by e = (inl (c, at, tt), agrees.fault d f (some_fault f (read d) e))
  either_fault d f None (Some c) at by e = (inr (c, by, tt), agrees.fault d f (some_fault f (read d) e))

  second_there : (d : Data) (c : Data) (a : Option Data) → get one d ≡ a → get other d ≡ Some c → if_either one other read d ≡ some_of (read d)
  second_there d c None at by = ap (λ a. of_either (read d) a (get other d)) at ∙ ap (λ b. of_either (read d) None b) by
  second_there d c (Some k) at by = first_there d k at

  either_refused : (d : Data) (f : FlatError) → either.fault d f → if_either one other read d ≡ Err f
  either_refused d f (inl k, e) = first_there d k.0 k.1 ∙ ap some_of (agrees.refused d f e)
  either_refused d f (inr k, e) = second_there d k.0 (get one d) refl k.1 ∙ ap some_of (agrees.refused d f e)

  pub both_or_none_agrees : Agrees (both_or_none one g other h) (if_either one other read)
  both_or_none_agrees = record {
    found = λ d o e. either_found d o (get one d) (get other d) refl refl e;
    again = either_again;
    fault = λ d f e. either_fault d f (get one d) (get other d) refl refl e;
    refused = either_refused;
  }
