-- Lists of assertions, one call after another.
use Rattle.std.specs.List.{AllZip}
use Rattle.std.proofs.Common.{◌≡◌, ◌<◌, List, [], ◌++◌, take, Result, Ok, Err, refl, subst, sym}
use Rattle.std.proofs.lemmas.Slice.Zip.{AllZip-long}
use Rattle.air_field.specs.Term.{Leaf, Term}
use Rattle.air_core.specs.declared.errors.AirError.{AirError}
use Rattle.air_builder.specs.Assertion.{Assertion}
use Rattle.air_builder.specs.Batches.{OfBeginning, AssertedEach}
use Rattle.air_builder.specs.Builders.{BuilderView, BuilderLaws}
use Rattle.air_builder.specs.laws.Batches.{first_of_two, first_whole}
use Rattle.air_builder.specs.laws.Zips.{AllZip-take}
use Rattle.air_gadgets.specs.Gadgets.{AssertedSuch}

-- one list, and then another
abbrev pub Then : {F : Type 0} → (List (Assertion F) → Type 0) → (List (Assertion F) → Type 0) → List (Assertion F) → Type 0
Then {F = F} is more ss = (xs : List (Assertion F)) × (ys : List (Assertion F)) × is xs × more ys × (ss ≡ xs ++ ys)

module _ {S R E F : Type 0} {view : BuilderView S R E F} (laws : BuilderLaws view) where
  open view use {reads_as, kept, grew, refuses}

  -- `AssertedSuch` for the lists of `was` holds for those of `is`, if each of these is one of those
  pub list_of : {is was : List (Assertion F) → Type 0} {a b : S} (result : Result (Unit {0}) AirError)
      → ((ss : List (Assertion F)) → is ss → was ss) → AssertedSuch was kept grew refuses a b result
      → AssertedSuch is kept grew refuses a b result
  list_of (Ok u) f h = record { keeps = h.keeps; ok = λ ss i. h.ok ss (f ss i); err = tt; refused = tt }
  list_of (Err e) f h = record {
    keeps = h.keeps;
    ok = tt;
    err = λ ss i. h.err ss (f ss i);
    refused = λ ss i. h.refused ss (f ss i);
  }

  -- the assertions of each element, in order, make a list
  pub list_of_each : {I : Type 0} {asserts : S → I → Assertion F → Type 0} {a b : S} {xs : List I}
      (result : Result (Unit {0}) AirError) → AssertedEach asserts kept grew refuses a b xs result
      → AssertedSuch (AllZip (asserts a) xs) kept grew refuses a b result
  list_of_each (Ok u) h = record { keeps = h.keeps; ok = h.ok; err = tt; refused = tt }
  list_of_each {asserts = asserts} {a = a} {xs = xs} (Err e) h = record {
    keeps = h.keeps;
    ok = tt;
    err = λ ss each. record {
      count = h.err.count;
      within = subst (λ n. h.err.count < n) (sym (AllZip-long (asserts a) xs ss each)) h.err.within;
      beginning = h.err.beginning (take h.err.count ss) (AllZip-take (asserts a) h.err.count xs ss each);
    };
    refused = h.refused;
  }

  module _ {is more : List (Assertion F) → Type 0} {a b : S} where
    -- a list was asserted, and then another
    pub list_then : {d : S} {u : Unit {0}} (result : Result (Unit {0}) AirError)
        → AssertedSuch is kept grew refuses a b (Ok u) → AssertedSuch more kept grew refuses b d result
        → AssertedSuch (Then is more) kept grew refuses a d result
    list_then {d = d} (Ok v) h k = record {
      keeps = laws.kept_joined a b d h.keeps k.keeps;
      ok = λ ss w. subst (grew a d) (sym w.4) (laws.joined a b d w.0 w.1 (h.ok w.0 w.2) (k.ok w.1 w.3));
      err = tt;
      refused = tt;
    }
    list_then {d = d} (Err e) h k = record {
      keeps = laws.kept_joined a b d h.keeps k.keeps;
      ok = tt;
      err = λ ss w.
          let rest = k.err w.1 w.3 in
          subst (λ v. OfBeginning v (grew a d)) (sym w.4)
          (first_whole grew a d w.0 w.1 rest.count rest.within
          (laws.joined a b d w.0 (take rest.count w.1) (h.ok w.0 w.2) rest.beginning));
      refused = λ ss w. subst (refuses a e) (sym w.4) (laws.refuses_then a b e w.0 w.1 (h.ok w.0 w.2) (k.refused w.1 w.3));
    }

    -- the first of two was refused
    pub list_first : {e : AirError} → AssertedSuch is kept grew refuses a b (Err e)
        → AssertedSuch (Then is more) kept grew refuses a b (Err e)
    list_first {e = e} h = record {
      keeps = h.keeps;
      ok = tt;
      err = λ ss w. subst (λ v. OfBeginning v (grew a b)) (sym w.4) (first_of_two grew a b w.0 w.1 (h.err w.0 w.2));
      refused = λ ss w. subst (refuses a e) (sym w.4) (laws.refuses_first a e w.0 w.1 (h.refused w.0 w.2));
    }

  -- nothing was asserted, and then a list
  pub list_after : {is : List (Assertion F) → Type 0} {a b d : S} (result : Result (Unit {0}) AirError) → grew a b []
      → AssertedSuch is kept grew refuses b d result → AssertedSuch is kept grew refuses a d result
  list_after {a = a} {b = b} result g h =
      let none : AssertedSuch (λ ss. ss ≡ []) kept grew refuses a b (Ok tt) = record {
        keeps = laws.by_growth a b [] g;
        ok = λ ss e. subst (grew a b) (sym e) g;
        err = tt;
        refused = tt;
      } in
      list_of result (λ ss i. ([], ss, refl, i, refl)) (list_then result none h)

  -- assertions that depend on the builder only by how it reads the leaves
  module _ {I : Type 0} (over : (Leaf → Term F) → I → Assertion F → Type 0) where
    pub over_kept : (a b : S) → kept a b → (x : I) (s : Assertion F) → over (reads_as a) x s → over (reads_as b) x s
    over_kept a b k x s h = subst (λ l. over l x s) (sym (laws.reads_as_kept a b k)) h

    -- a list was asserted, and then each element
    pub list_then_each : {is : List (Assertion F) → Type 0} {a b d : S} {xs : List I} {u : Unit {0}}
        (result : Result (Unit {0}) AirError) → AssertedSuch is kept grew refuses a b (Ok u)
        → AssertedEach (λ c. over (reads_as c)) kept grew refuses b d xs result
        → AssertedSuch (Then is (AllZip (over (reads_as a)) xs)) kept grew refuses a d result
    list_then_each {is = is} {a = a} {b = b} {d = d} {xs = xs} result h k =
        subst (λ l. AssertedSuch (Then is (AllZip (over l) xs)) kept grew refuses a d result) (laws.reads_as_kept a b h.keeps)
        (list_then result h (list_of_each result k))
