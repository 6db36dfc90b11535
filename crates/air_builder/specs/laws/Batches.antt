-- Consequences of a call that asserts each of several elements.
use Rattle.std.specs.Prelude.{⊤}
use Rattle.std.proofs.Common.{◌≡◌, ◌<◌, ◌≤◌, ℕ, zero, suc, ◌+◌, List, [], ◌∷◌, ◌++◌, length, take, drop, slice_index_or, Result, Ok, Err, inr, OnOk, OnErr, IfErr, ap, subst, sym, ◌∙◌, ap₂, append-nil, arith}
use Rattle.std.proofs.lemmas.List.{take_more, take_all, drop_more, take-append-drop, take-append-le, length-append}
use Rattle.std.proofs.lemmas.Result.{err_from_is_err_and, IfErr-weaker}
use Rattle.std.proofs.lemmas.Slice.Zip.{get_or-zip}
use Rattle.std.proofs.Math.Seq.{take-append-add}
use Rattle.std.specs.List.{AllZip, zip}
use Rattle.std.specs.Result.{IsErrAnd}
use Rattle.air_field.specs.Term.{Leaf, Term}
use Rattle.air_core.specs.declared.errors.AirError.{AirError}
use Rattle.air_builder.specs.Assertion.{Assertion}
use Rattle.air_builder.specs.Batches.{AssertsOf, AssertsOfBoth, OfEach, OfBeginning, OfFirst, AssertedEach, AssertedList, OrMemory}
use Rattle.air_builder.specs.Builders.{MeansIn, BuilderView, RingLaws, BuilderLaws}
use Rattle.air_builder.specs.laws.Filters.{means_kept}
use Rattle.air_builder.specs.laws.Zips.{AllZip-parts, AllZip-nil}

-- a fact about one element, for the list of only that element
module _ {S I F : Type 0} (asserts : S → I → Assertion F → Type 0) (a : S) (x : I) (fact : List (Assertion F) → Type 0) where
  of_one_element : ((s : Assertion F) → asserts a x s → fact (s ∷ [])) → OfEach asserts (x ∷ []) a fact
  of_one_element f [] h = absurd h
  of_one_element f (s ∷ []) h = f s h.0
  of_one_element f (s ∷ t ∷ ss) h = absurd h.1

  -- the strict prefix of a list of one element is empty
  first_of_one : (n : ℕ) → n < 1 → OfEach asserts (take n (x ∷ [])) a fact → fact []
  first_of_one zero lt f = f [] tt
  first_of_one (suc n) lt f = absurd (omega (arith, lt))

module _ {S I F X : Type 0} {asserts : S → I → Assertion F → Type 0} {kept : S → S → Type 0}
    {grew : S → S → List (Assertion F) → Type 0} {refuses : S → X → List (Assertion F) → Type 0} {a b : S} {x : I} where
  -- one element was asserted, or refused
  pub asserted_one : (result : Result ⊤ X) → kept a b
      → OnOk result ((s : Assertion F) → asserts a x s → grew a b (s ∷ [])) → OnErr result (grew a b [])
      → IfErr result (λ e. (s : Assertion F) → asserts a x s → refuses a e (s ∷ []))
      → AssertedEach asserts kept grew refuses a b (x ∷ []) result
  asserted_one (Ok u) k g n r = record { keeps = k; ok = of_one_element asserts a x (grew a b) g; err = tt; refused = tt }
  asserted_one (Err e) k g n r = record {
    keeps = k;
    ok = tt;
    err = record {
      count = 0;
      within = omega arith;
      beginning = λ ss h. subst (λ v. grew a b v) (sym (AllZip-nil (asserts a) ss h)) n;
    };
    refused = of_one_element asserts a x (refuses a e) r;
  }

  -- conversely, the growth and the refusal of the one element
  pub grew_one : {u : ⊤} → AssertedEach asserts kept grew refuses a b (x ∷ []) (Ok u)
      → (s : Assertion F) → asserts a x s → grew a b (s ∷ [])
  grew_one h s k = h.ok (s ∷ []) (k, tt)

  pub grew_none : {e : X} → AssertedEach asserts kept grew refuses a b (x ∷ []) (Err e) → grew a b []
  grew_none h = first_of_one asserts a x (grew a b) h.err.count h.err.within h.err.beginning

  pub refused_one : {e : X} → AssertedEach asserts kept grew refuses a b (x ∷ []) (Err e)
      → (s : Assertion F) → asserts a x s → refuses a e (s ∷ [])
  refused_one h s k = h.refused (s ∷ []) (k, tt)

module _ {S F : Type 0} (grew : S → S → List (Assertion F) → Type 0) (a b : S) (xs ys : List (Assertion F)) where
  -- a strict prefix of the first of two lists
  pub first_of_two : OfBeginning xs (grew a b) → OfBeginning (xs ++ ys) (grew a b)
  first_of_two h =
      let e = length-append xs ys in
      let lt = h.within in
      let le : h.count ≤ length xs = omega (arith, lt) in record {
        count = h.count;
        within = omega (arith, lt, e);
        beginning = subst (grew a b) (sym (take-append-le h.count xs ys le)) h.beginning;
      }

  -- all of the first list and a strict prefix of the second
  pub first_whole : (n : ℕ) → n < length ys → grew a b (xs ++ take n ys) → OfBeginning (xs ++ ys) (grew a b)
  first_whole n lt h =
      let e = length-append xs ys in record {
        count = length xs + n;
        within = omega (arith, lt, e);
        beginning = subst (grew a b) (sym (take-append-add xs ys n)) h;
      }

-- the first elements, one more, and the others
pub in_parts : {X : Type 0} (xs : List X) (i : ℕ) (d : X) → i < length xs → xs ≡ take i xs ++ (slice_index_or xs i d ∷ drop (i + 1) xs)
in_parts xs i d lt = sym (take-append-drop i xs) ∙ ap (λ v. take i xs ++ v) (drop_more xs i d lt)

module _ {S R E F : Type 0} {view : BuilderView S R E F} (laws : BuilderLaws view) {I : Type 0} (asserts : S → I → Assertion F → Type 0)
    (asserts_kept : (a b : S) → view.kept a b → (x : I) (s : Assertion F) → asserts a x s → asserts b x s) where
  open view use {kept, grew, refuses}

  -- no element yet
  none_yet : (a : S) → OfEach asserts [] a (grew a a)
  none_yet a [] h = laws.same a
  none_yet a (s ∷ ss) h = absurd h

  -- one element more
  each_more : (a b c : S) (xs : List I) (i : ℕ) (x : I) → i < length xs → x ≡ slice_index_or xs i x → kept a b
      → OfEach asserts (take i xs) a (grew a b) → ((s : Assertion F) → asserts b x s → grew b c (s ∷ []))
      → OfEach asserts (take (i + 1) xs) a (grew a c)
  each_more a b c xs i x lt is k g one ss h =
      let here : take (i + 1) xs ≡ take i xs ++ (x ∷ []) = take_more xs i x lt ∙ ap (λ v. take i xs ++ (v ∷ [])) (sym is) in
      let parts = AllZip-parts (asserts a) (take i xs) x [] ss (subst (λ v. AllZip (asserts a) v ss) here h) in
      let whole : ss ≡ parts.0 ++ (parts.1 ∷ []) = parts.3 ∙ ap (λ v. parts.0 ++ (parts.1 ∷ v)) (AllZip-nil (asserts a) parts.2 parts.6) in
      subst (λ v. grew a c v) (sym whole)
      (laws.joined a b c parts.0 (parts.1 ∷ []) (g parts.0 parts.4) (one parts.1 (asserts_kept a b k x parts.1 parts.5)))

  -- a refused element leaves the builder as it was
  each_then : (a b c : S) (xs : List I) → OfEach asserts xs a (grew a b) → grew b c [] → OfEach asserts xs a (grew a c)
  each_then a b c xs g none ss h = subst (λ v. grew a c v) (append-nil ss) (laws.joined a b c ss [] (g ss h) none)

  -- so only a strict prefix is asserted
  beginning : (a b c : S) (xs : List I) (i : ℕ) → i < length xs → OfEach asserts (take i xs) a (grew a b)
      → grew b c [] → OfFirst asserts xs a (grew a c)
  beginning a b c xs i lt g none = record { count = i; within = lt; beginning = each_then a b c (take i xs) g none }

  -- one assertion was refused after others
  refused_at : (a b : S) (e : AirError) (ss before after : List (Assertion F)) (s : Assertion F)
      → ss ≡ before ++ (s ∷ after) → grew a b before → refuses b e (s ∷ []) → refuses a e ss
  refused_at a b e ss before after s parts g r =
      subst (λ v. refuses a e v) (sym parts)
      (laws.refuses_then a b e before (s ∷ after) g (laws.refuses_first b e (s ∷ []) after r))

  -- one element was refused
  each_refused : (a b : S) (e : AirError) (xs : List I) (i : ℕ) (x : I) → i < length xs → x ≡ slice_index_or xs i x
      → kept a b → OfEach asserts (take i xs) a (grew a b)
      → ((s : Assertion F) → asserts b x s → refuses b e (s ∷ []))
      → OfEach asserts xs a (refuses a e)
  each_refused a b e xs i x lt is k g one ss h =
      let here : xs ≡ take i xs ++ (x ∷ drop (i + 1) xs) = in_parts xs i x lt ∙ ap (λ v. take i xs ++ (v ∷ drop (i + 1) xs)) (sym is) in
      let parts = AllZip-parts (asserts a) (take i xs) x (drop (i + 1) xs) ss (subst (λ v. AllZip (asserts a) v ss) here h) in
      refused_at a b e ss parts.0 parts.2 parts.1 parts.3 (g parts.0 parts.4) (one parts.1 (asserts_kept a b k x parts.1 parts.5))

  -- a call that asserts each, from no element on
  pub nothing_asserted : (a : S) → AssertedEach asserts kept grew refuses a a [] (Ok tt)
  nothing_asserted a = record { keeps = laws.by_growth a a [] (laws.same a); ok = none_yet a; err = tt; refused = tt }

  module _ {a b c : S} (xs : List I) (i : ℕ) where
    -- one element more
    pub asserted_more : {u v : ⊤} (x : I) → i < length xs → x ≡ slice_index_or xs i x
        → AssertedEach asserts kept grew refuses a b (take i xs) (Ok u)
        → AssertedEach asserts kept grew refuses b c (x ∷ []) (Ok v)
        → AssertedEach asserts kept grew refuses a c (take (i + 1) xs) (Ok tt)
    asserted_more x lt is h k = record {
      keeps = laws.kept_joined a b c h.keeps k.keeps;
      ok = each_more a b c xs i x lt is h.keeps h.ok (grew_one k);
      err = tt;
      refused = tt;
    }

    -- one element was refused, and a `?` returns the refusal
    pub asserted_refused : {u : ⊤} {e : AirError} {result : Result ⊤ AirError} (x : I) → i < length xs
        → x ≡ slice_index_or xs i x → AssertedEach asserts kept grew refuses a b (take i xs) (Ok u)
        → AssertedEach asserts kept grew refuses b c (x ∷ []) (Err e) → IsErrAnd result (λ y. y ≡ e)
        → AssertedEach asserts kept grew refuses a c xs result
    asserted_refused {e = e} {result = result} x lt is h k given =
        let q = err_from_is_err_and result given in
        rw (q.1, q.2) (record {
          keeps = laws.kept_joined a b c h.keeps k.keeps;
          ok = tt;
          err = beginning a b c xs i lt h.ok (grew_none k);
          refused = each_refused a b e xs i x lt is h.keeps h.ok (refused_one k);
        })

  -- all elements
  pub asserted_all : {a b : S} {u v : ⊤} (xs : List I) (i : ℕ) → length xs ≤ i
      → AssertedEach asserts kept grew refuses a b (take i xs) (Ok u)
      → AssertedEach asserts kept grew refuses a b xs (Ok v)
  asserted_all {a} {b} xs i end h = record {
    keeps = h.keeps;
    ok = subst (λ v. OfEach asserts v a (grew a b)) (take_all i xs end) h.ok;
    err = tt;
    refused = tt;
  }

-- the pair at an index of two zipped lists
pub get_pair : {A B : Type 0} (xs : List A) (ys : List B) (i : ℕ) (x : A) (y : B) → i < length xs → i < length ys
    → x ≡ slice_index_or xs i x → y ≡ slice_index_or ys i y → (x, y) ≡ slice_index_or (zip xs ys) i (x, y)
get_pair xs ys i x y p q e f = ap₂ (λ v w. (v, w)) e f ∙ sym (get_or-zip xs ys i (x, y) p q)

module _ {S R E F : Type 0} {view : BuilderView S R E F} (ring : RingLaws view) (laws : BuilderLaws view) where
  open view use {kept}

  pub asserts_kept : (kind : Term F → Assertion F) (op : Term F → Term F) (a b : S) → kept a b → (x : E)
      (s : Assertion F)
      → AssertsOf kind (MeansIn view) op a x s → AssertsOf kind (MeansIn view) op b x s
  asserts_kept kind op a b k x s h = (h.0, means_kept ring laws a b x h.0 k h.1, h.2)

  pub both_kept : (kind : Term F → Assertion F) (op : Term F → Term F → Term F) (a b : S) → kept a b
      → (p : E × E) (s : Assertion F)
      → AssertsOfBoth kind (MeansIn view) op a p s → AssertsOfBoth kind (MeansIn view) op b p s
  both_kept kind op a b k p s h = (h.0, h.1, means_kept ring laws a b p.0 h.0 k h.2, means_kept ring laws a b p.1 h.1 k h.3, h.4)

-- a call that asserts a list may be a whole evaluation
pub evaluates : {S F : Type 0} {kept : S → S → Type 0} {grew : S → S → List (Assertion F) → Type 0} {missing : S → Leaf → Type 0}
    {refuses : S → AirError → List (Assertion F) → Type 0} {a b : S} {ts : List (Assertion F)} (r : Result ⊤ AirError)
    → AssertedList kept grew missing refuses a b r ts → AssertedList kept grew missing (OrMemory refuses) a b r ts
evaluates r h = record {
  asserted = record {
    keeps = h.asserted.keeps;
    ok = h.asserted.ok;
    err = h.asserted.err;
    refused = IfErr-weaker r _ _ (λ e refused. inr refused) h.asserted.refused;
  };
  there = h.there;
}
