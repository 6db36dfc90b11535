-- Growth under labels.
use Rattle.std.specs.Prelude.{⊤}
use Rattle.std.proofs.Common.{◌≡◌, ◌<◌, ◌≤◌, ℕ, ◌+◌, List, [], ◌∷◌, ◌++◌, length, take, slice_index_or, Option, Result, Ok, Err, OnOk, refl, ap, subst, sym, ◌∙◌, arith, length-append, append-nil}
use Rattle.std.proofs.lemmas.List.{take_more, take_all, length-take-le}
use Rattle.std.proofs.lemmas.Result.{err_from_is_err_and}
use Rattle.std.specs.Result.{IsErrAnd}
use Rattle.std.specs.List.{AllZip, zip}
use Rattle.air_field.specs.Term.{Term, with_leaves}
use Rattle.air_field.specs.declared.errors.RingError.{RingError}
use Rattle.air_core.specs.declared.errors.AirError.{AirError}
use Rattle.air_core.specs.Errors.{air_error}
use Rattle.air_builder.specs.Assertion.{Assertion}
use Rattle.air_builder.specs.Batches.{AssertsOf, AssertsOfBoth, AssertedEach}
use Rattle.air_builder.specs.Builders.{MeansIn, BuilderView, RingLaws, BuilderLaws}
use Rattle.air_builder.specs.Refusals.{PartOf}
use Rattle.air_builder.specs.Labels.{Label, Unasked, Shown, Labelled, IsSaid, AreSaidFrom, GrewWithoutLabels, LabelledByEach, LabelledByBeginning, LabelledEach, LabelledBy, NamedLaws}
use Rattle.air_builder.specs.laws.Batches.{grew_one, grew_none}
use Rattle.air_builder.specs.laws.Labels.{one_label, labelled_one, no_label}
use Rattle.air_builder.specs.laws.Growth.{lent, lent_asserted, making_refused, made_of, made_of_both, refused_of, refused_of_both}
use Rattle.std.proofs.lemmas.Slice.Zip.{AllZip-long, firsts-zip, seconds-zip}
use Rattle.air_builder.specs.laws.Zips.{AllZip-parts, AllZip-nil}

IsSaid-weaker : {says others : Option (List ℕ) → Type 0} → ((text : Option (List ℕ)) → others text → says text)
    → (l : Label) → IsSaid others l → IsSaid says l
IsSaid-weaker w Unasked h = tt
IsSaid-weaker w (Shown text) h = w text h

-- a builder that discards labels asks for no label
pub no_label_asked : {S I F : Type 0} {asserts : S → I → Assertion F → Type 0} {kept : S → S → Type 0}
    {grew : S → S → List (Assertion F) → Type 0} {refuses : S → AirError → List (Assertion F) → Type 0}
    {says : Option (List ℕ) → Type 0} {a b : S} {x : I} (result : Result ⊤ AirError)
    → AssertedEach asserts kept grew refuses a b (x ∷ []) result
    → LabelledEach asserts (GrewWithoutLabels grew) (λ i. says) a b (x ∷ []) result
no_label_asked (Ok u) h = labelled_one (Ok u) (record { label = Unasked; said = tt; grown = λ s k. grew_one h s k }) tt
no_label_asked (Err e) h = labelled_one (Err e) tt (grew_none h)

-- one element was asserted, or refused, and so was it under a label
pub record NamedOne {S I F : Type 0} (asserts : S → I → Assertion F → Type 0) (kept : S → S → Type 0)
    (grew : S → S → List (Assertion F) → Type 0) (refuses : S → AirError → List (Assertion F) → Type 0)
    (labelled : S → S → List (Labelled F) → Type 0) (says : Option (List ℕ) → Type 0) (a b : S) (x : I)
    (result : Result ⊤ AirError) : Type 0 where
  pub asserted : AssertedEach asserts kept grew refuses a b (x ∷ []) result
  pub label : LabelledEach asserts labelled (λ i. says) a b (x ∷ []) result

AreSaidFrom-more : (says : ℕ → Option (List ℕ) → Type 0) (i j : ℕ) (ls : List Label) (l : Label) → j ≡ i + length ls
    → AreSaidFrom says i ls → IsSaid (says j) l → AreSaidFrom says i (ls ++ (l ∷ []))
AreSaidFrom-more says i j [] l e h said = (let same : j ≡ i = omega arith in subst (λ k. IsSaid (says k) l) same said, tt)
AreSaidFrom-more says i j (k ∷ ls) l e h said = (h.0, AreSaidFrom-more says (i + 1) j ls l (omega arith) h.1 said)

zip-more : {A B : Type 0} (xs : List A) (ys : List B) (x : A) (y : B) → length xs ≡ length ys
    → zip (xs ++ (x ∷ [])) (ys ++ (y ∷ [])) ≡ zip xs ys ++ ((x, y) ∷ [])
zip-more [] [] x y e = refl
zip-more [] (w ∷ ys) x y e = absurd (omega arith)
zip-more (v ∷ xs) [] x y e = absurd (omega arith)
zip-more (v ∷ xs) (w ∷ ys) x y e = ap (λ zs. (v, w) ∷ zs) (zip-more xs ys x y (omega arith))

module _ {S R E F : Type 0} {view : BuilderView S R E F} {labelled : S → S → List (Labelled F) → Type 0}
    (laws : BuilderLaws view) (named : NamedLaws view.grew labelled) where
  open view use {extends, ring_of, with_ring, kept, grew, refuses}

  -- the ring was lent, and then the builder grew
  lent_labels : (a b : S) (q r : R) (ls : List (Labelled F)) → q ≡ ring_of a → extends q r → labelled (with_ring a r) b ls → labelled a b ls
  lent_labels a b q r ls p e g = named.labelled_joined a (with_ring a r) b [] ls (named.labelled_nothing a (with_ring a r) (lent laws a q r p e)) g

  module _ {I : Type 0} (asserts : S → I → Assertion F → Type 0) (asserts_kept : (a b : S) → kept a b → (x : I) (s : Assertion F) → asserts a x s → asserts b x s) (says : ℕ → Option (List ℕ) → Type 0) where
    -- no element yet
    no_label_yet : (a : S) → LabelledByEach asserts labelled says a a []
    no_label_yet a = record {
      labels = [];
      as_many = refl;
      said = tt;
      grown = λ ss h. subst (λ zs. labelled a a (zip zs [])) (sym (AllZip-nil (asserts a) ss h)) (named.labelled_nothing a a (laws.same a));
    }

    -- one element more
    label_more : (a b c : S) (xs : List I) (i : ℕ) (x : I) (l : Label) → i < length xs → x ≡ slice_index_or xs i x
        → kept a b → LabelledByEach asserts labelled says a b (take i xs) → IsSaid (says i) l
        → ((s : Assertion F) → asserts b x s → labelled b c ((s, l) ∷ []))
        → LabelledByEach asserts labelled says a c (take (i + 1) xs)
    label_more a b c xs i x l lt is k g said one =
        let here : take (i + 1) xs ≡ take i xs ++ (x ∷ []) = take_more xs i x lt ∙ ap (λ v. take i xs ++ (v ∷ [])) (sym is) in
        let long : length (take i xs) ≡ i = length-take-le i xs (omega arith) in
        let longer : length (take (i + 1) xs) ≡ i + 1 = length-take-le (i + 1) xs (omega arith) in
        let many : length g.labels ≡ i = g.as_many ∙ long in
        record {
          labels = g.labels ++ (l ∷ []);
          as_many = rw length-append (omega arith);
          said = AreSaidFrom-more says 0 i g.labels l (omega arith) g.said said;
          grown = λ ss h.
              let parts = AllZip-parts (asserts a) (take i xs) x [] ss (subst (λ v. AllZip (asserts a) v ss) here h) in
              let whole : ss ≡ parts.0 ++ (parts.1 ∷ []) = parts.3 ∙ ap (λ v. parts.0 ++ (parts.1 ∷ v)) (AllZip-nil (asserts a) parts.2 parts.6) in
              let as_long : length parts.0 ≡ length g.labels = AllZip-long (asserts a) (take i xs) parts.0 parts.4 ∙ sym g.as_many in
              subst (λ v. labelled a c v) (sym (ap (λ v. zip v (g.labels ++ (l ∷ []))) whole ∙ zip-more parts.0 g.labels parts.1 l as_long))
              (named.labelled_joined a b c (zip parts.0 g.labels) ((parts.1, l) ∷ []) (g.grown parts.0 parts.4) (one parts.1 (asserts_kept a b k x parts.1 parts.5)));
        }

    -- a refused element leaves the builder as it was, so only a strict prefix is asserted
    label_beginning : (a b c : S) (xs : List I) (i : ℕ) → i < length xs
        → LabelledByEach asserts labelled says a b (take i xs) → labelled b c []
        → LabelledByBeginning asserts labelled says a c xs
    label_beginning a b c xs i lt g none = record {
      count = i;
      within = lt;
      beginning = record {
        labels = g.labels;
        as_many = g.as_many;
        said = g.said;
        grown = λ ss h. subst (λ zs. labelled a c zs) (append-nil (zip ss g.labels)) (named.labelled_joined a b c (zip ss g.labels) [] (g.grown ss h) none);
      };
    }

    -- a call that asserts each under labels, from no element on
    pub labels_nothing : (a : S) → LabelledEach asserts labelled says a a [] (Ok tt)
    labels_nothing a = record { ok = no_label_yet a; err = tt }

    module _ {a b c : S} (xs : List I) (i : ℕ) where
      -- one element more
      pub labelled_more : {u v : ⊤} {others : Option (List ℕ) → Type 0} (x : I) → i < length xs
          → x ≡ slice_index_or xs i x → kept a b → LabelledEach asserts labelled says a b (take i xs) (Ok u)
          → ((text : Option (List ℕ)) → others text → says i text)
          → LabelledEach asserts labelled (λ j. others) b c (x ∷ []) (Ok v)
          → LabelledEach asserts labelled says a c (take (i + 1) xs) (Ok tt)
      labelled_more x lt is k h w l =
          let one = one_label l in
          record { ok = label_more a b c xs i x one.label lt is k h.ok (IsSaid-weaker w one.label one.said) one.grown; err = tt }

      -- one element was refused, and a `?` returns the refusal
      pub labelled_refused : {u : ⊤} {e : AirError} {result : Result ⊤ AirError} {x : I}
          {others : ℕ → Option (List ℕ) → Type 0} → i < length xs
          → LabelledEach asserts labelled says a b (take i xs) (Ok u)
          → LabelledEach asserts labelled others b c (x ∷ []) (Err e) → IsErrAnd result (λ y. y ≡ e)
          → LabelledEach asserts labelled says a c xs result
      labelled_refused {result = result} lt h k given =
          let q = err_from_is_err_and result given in
          rw (q.1, q.2) (record { ok = tt; err = label_beginning a b c xs i lt h.ok (no_label k) })

    -- all elements
    pub labelled_all : {a b : S} {u v : ⊤} (xs : List I) (i : ℕ) → length xs ≤ i
        → LabelledEach asserts labelled says a b (take i xs) (Ok u) → LabelledEach asserts labelled says a b xs (Ok v)
    labelled_all {a} {b} xs i end h = record {
      ok = subst (λ v. LabelledByEach asserts labelled says a b v) (take_all i xs end) h.ok;
      err = tt;
    }

  module _ {I : Type 0} {asserts : S → I → Assertion F → Type 0} {says : Option (List ℕ) → Type 0} {a : S} {q r : R} {x : I} (p : q ≡ ring_of a) (e : extends q r) where
    lent_labelled : {J : Type 0} {made : S → J → Assertion F → Type 0} {b : S} {z : J} (result : Result ⊤ AirError)
        → ((s : Assertion F) → asserts a x s → made (with_ring a r) z s)
        → LabelledEach made labelled (λ i. says) (with_ring a r) b (z ∷ []) result
        → LabelledEach asserts labelled (λ i. says) a b (x ∷ []) result
    lent_labelled {b = b} (Ok u) m h =
        let one = one_label h in
        labelled_one (Ok u)
        (record { label = one.label; said = one.said; grown = λ s k. lent_labels a b q r ((s, one.label) ∷ []) p e (one.grown s (m s k)) })
        tt
    lent_labelled {b = b} (Err f) m h = labelled_one (Err f) tt (lent_labels a b q r [] p e (no_label h))

    making_unlabelled : (f : AirError) → LabelledEach asserts labelled (λ i. says) a (with_ring a r) (x ∷ []) (Err f)
    making_unlabelled f = labelled_one (Err f) tt (named.labelled_nothing a (with_ring a r) (lent laws a q r p e))

    -- The lent ring made z from x, z asserts what x asserts, and z was asserted under a label: so was x.
    pub lent_named : {J : Type 0} {made : S → J → Assertion F → Type 0} {b : S} {z : J} (result : Result ⊤ AirError)
        → ((s : Assertion F) → asserts a x s → made (with_ring a r) z s)
        → AssertedEach made kept grew refuses (with_ring a r) b (z ∷ []) result
        → LabelledEach made labelled (λ i. says) (with_ring a r) b (z ∷ []) result
        → NamedOne asserts kept grew refuses labelled says a b x result
    lent_named result m h l = record { asserted = lent_asserted laws p e result m h; label = lent_labelled result m l }

    -- the lent ring refused to make it
    pub making_unnamed : (f : AirError) → ((s : Assertion F) → asserts a x s → refuses a f (s ∷ []))
        → NamedOne asserts kept grew refuses labelled says a (with_ring a r) x (Err f)
    making_unnamed f h = record { asserted = making_refused laws p e f h; label = making_unlabelled f }

-- An operation of the lent ring made an element from one or two others, and that was asserted under a label; or a `?`
-- returns the ring's refusal.
module _ {S R E F : Type 0} {view : BuilderView S R E F} {labelled : S → S → List (Labelled F) → Type 0}
    (ring : RingLaws view) (laws : BuilderLaws view) (named : NamedLaws view.grew labelled) (kind : Term F → Assertion F)
    {says : Option (List ℕ) → Type 0} {a : S} {q r : R} (p : q ≡ view.ring_of a) (e : view.extends q r) where
  open view use {means, ring_refuses, with_ring, reads_as, kept, grew, refuses}

  module _ (op : Term F → Term F) (through : (t : Term F) → op (with_leaves (reads_as a) t) ≡ with_leaves (reads_as a) (op t)) where
    pub one_named : {b : S} {x z : E} {result : Result ⊤ AirError}
        → ((t : Term F) → means q x t → means r z (op t))
        → AssertedEach (AssertsOf kind (MeansIn view) (λ t. t)) kept grew refuses (with_ring a r) b (z ∷ []) result
        → LabelledEach (AssertsOf kind (MeansIn view) (λ t. t)) labelled (λ i. says) (with_ring a r) b (z ∷ []) result
        → NamedOne (AssertsOf kind (MeansIn view) op) kept grew refuses labelled says a b x result
    one_named {result = result} m h l = lent_named laws named p e result (made_of ring laws kind p e op through m) h l

    pub one_unnamed : {x : E} {f : RingError} {result : Result ⊤ AirError}
        → ((t : Term F) → PartOf t (kind t ∷ [])) → ((t : Term F) → means q x t → ring_refuses f (op t))
        → IsErrAnd result (λ y. y ≡ air_error f)
        → NamedOne (AssertsOf kind (MeansIn view) op) kept grew refuses labelled says a (with_ring a r) x result
    one_unnamed {f = f} {result = result} inside m is =
        let i = err_from_is_err_and result is in
        rw (i.1, i.2) (making_unnamed laws named p e (air_error f) (refused_of ring laws kind inside p op f through m))

  module _ (op : Term F → Term F → Term F)
      (through : (t u : Term F) → op (with_leaves (reads_as a) t) (with_leaves (reads_as a) u) ≡ with_leaves (reads_as a) (op t u)) where
    pub both_named : {b : S} {x y z : E} {result : Result ⊤ AirError}
        → ((t u : Term F) → means q x t → means q y u → means r z (op t u))
        → AssertedEach (AssertsOf kind (MeansIn view) (λ t. t)) kept grew refuses (with_ring a r) b (z ∷ []) result
        → LabelledEach (AssertsOf kind (MeansIn view) (λ t. t)) labelled (λ i. says) (with_ring a r) b (z ∷ []) result
        → NamedOne (AssertsOfBoth kind (MeansIn view) op) kept grew refuses labelled says a b (x, y) result
    both_named {result = result} m h l = lent_named laws named p e result (made_of_both ring laws kind p e op through m) h l

    pub both_unnamed : {x y : E} {f : RingError} {result : Result ⊤ AirError}
        → ((t : Term F) → PartOf t (kind t ∷ [])) → ((t u : Term F) → means q x t → means q y u → ring_refuses f (op t u))
        → IsErrAnd result (λ y. y ≡ air_error f)
        → NamedOne (AssertsOfBoth kind (MeansIn view) op) kept grew refuses labelled says a (with_ring a r) (x, y) result
    both_unnamed {f = f} {result = result} inside m is =
        let i = err_from_is_err_and result is in
        rw (i.1, i.2) (making_unnamed laws named p e (air_error f) (refused_of_both ring laws kind inside p op f through m))

-- An AIR that asserts a list under labels.
module _ {S F : Type 0} {grew : S → S → List (Assertion F) → Type 0} {labelled : S → S → List (Labelled F) → Type 0}
    (named : NamedLaws grew labelled) {says : ℕ → Option (List ℕ) → Type 0} where
  -- of no assertions none is labelled
  pub none_labelled : (a : S) → grew a a [] → LabelledBy labelled says a a []
  none_labelled a g = record { list = []; asserted = refl; said = tt; grown = named.labelled_nothing a a g }

  -- the elements were made, and then asserted under labels: so were the assertions that they make
  pub list_labelled : {I : Type 0} (asserts : S → I → Assertion F → Type 0) (a b d : S) (xs : List I)
      (ss : List (Assertion F)) (r : Result ⊤ AirError) → grew a b [] → AllZip (asserts b) xs ss
      → LabelledEach asserts labelled says b d xs r → OnOk r (LabelledBy labelled says a d ss)
  list_labelled asserts a b d xs ss (Ok u) g each h =
      let as_long : length h.ok.labels ≡ length ss = h.ok.as_many ∙ sym (AllZip-long (asserts b) xs ss each) in
      record {
        list = zip ss h.ok.labels;
        asserted = firsts-zip ss h.ok.labels as_long;
        said = subst (λ ls. AreSaidFrom says 0 ls) (sym (seconds-zip ss h.ok.labels as_long)) h.ok.said;
        grown = named.labelled_joined a b d [] (zip ss h.ok.labels) (named.labelled_nothing a b g) (h.ok.grown ss each);
      }
  list_labelled asserts a b d xs ss (Err e) g each h = tt
