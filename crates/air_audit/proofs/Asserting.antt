-- The assertion of roots.
use Rattle.std.specs.List.{AllZip}
use Rattle.std.proofs.Common.{◌≡◌, ℕ, zero, suc, ◌+◌, ◌<◌, ◌≤◌, List, [], ◌∷◌, length, get_or, slice_get, map, take, All, Option, Some, Result, Ok, Err, inl, inr, refl, sym, arith}
use Rattle.std.specs.Result.{IsErrAnd}
use Rattle.std.proofs.lemmas.List.{length-map}
use Rattle.air_field.specs.Part.{whole}
use Rattle.air_field.specs.Term.{Leaf, Term, with_leaves}
use Rattle.air_core.specs.declared.errors.AirError.{AirError}
use Rattle.air_builder.specs.Assertion.{Assertion, Base}
use Rattle.air_builder.specs.laws.Batches.{asserts_kept, asserted_one, grew_one, grew_none, refused_one, nothing_asserted, asserted_more, asserted_refused, asserted_all}
use Rattle.air_builder.specs.Labels.{Labelled, LabelledEach}
use Rattle.air_builder.specs.laws.Labels.{labelled_one, one_label, no_label}
use Rattle.air_builder.specs.laws.Zips.{AllZip-take}
use Rattle.std.proofs.lemmas.Slice.Zip.{AllZip-long}
use Rattle.air_builder.specs.Batches.{AssertsOf, AssertedEach, AssertedList, OrMemory}
use Rattle.air_builder.specs.Builders.{MeansIn, BuilderView, RingLaws, BuilderLaws}
use Rattle.air_builder.specs.Refusals.{PartOf, EachLeaf, EachLeafOf}
use Rattle.air_builder.specs.laws.Refusals.{none_missing}
use Rattle.air_audit.specs.Tables.{IsMade, HasAt, AssertsAt}
use Rattle.air_audit.proofs.Making.{read_is}

all_cons : {X : Type 0} (P : X → Type 0) (x : X) (xs : List X) → P x → All P xs → All P (x ∷ xs)
all_cons P x xs p h zero d lt = p
all_cons P x xs p h (suc k) d lt = h k d (omega (arith, lt))

all_rest : {X : Type 0} (P : X → Type 0) (x : X) (xs : List X) → All P (x ∷ xs) → All P xs
all_rest P x xs h k d lt = h (suc k) d (omega (arith, lt))

-- the assertion of each term has the term as a part
all_parts : {F : Type 0} (ts : List (Term F)) → All (λ t. PartOf t (map (λ u. Base u) ts)) ts
all_parts [] = λ k d lt. absurd (omega (arith, lt))
all_parts (t ∷ ts) = all_cons (λ u. PartOf u (map (λ v. Base v) (t ∷ ts))) t ts (inl whole) (λ k d lt. inr (all_parts ts k d lt))

leaves_of : {F : Type 0} (P : Leaf → Type 0) (ts : List (Term F)) → All (λ t. EachLeaf P t) ts → EachLeafOf P (map (λ t. Base t) ts)
leaves_of P [] h = tt
leaves_of P (t ∷ ts) h = (h 0 t (omega arith), leaves_of P ts (all_rest (λ u. EachLeaf P u) t ts h))

-- what the expression of each place asserts
pub each_asserts : {S E F : Type 0} (means : S → E → Term F → Type 0) (missing : S → Leaf → Type 0) (b : S) (table : List E) (term : ℕ → Term F) (places : List ℕ)
    → All (λ p. HasAt (IsMade means missing b (term p)) table p) places → AllZip (AssertsAt means table b) places (map (λ t. Base t) (map term places))
each_asserts means missing b table term [] h = tt
each_asserts means missing b table term (p ∷ places) h =
    let x = h 0 p (omega arith) in
    ((x.0, x.1, (term p, x.2.meant, refl)), each_asserts means missing b table term places (all_rest (λ q. HasAt (IsMade means missing b (term q)) table q) p places h))

-- one element was asserted under a label, or refused, as another is
pub labelled_as_another : {S I J F : Type 0} {asserts : S → I → Assertion F → Type 0} {other : S → J → Assertion F → Type 0} {labelled : S → S → List (Labelled F) → Type 0}
    {says : Option (List ℕ) → Type 0} (b c : S) (x : I) (y : J) (r : Result (Unit {0}) AirError) → ((s : Assertion F) → other b y s → asserts b x s)
    → LabelledEach asserts labelled (λ i. says) b c (x ∷ []) r → LabelledEach other labelled (λ i. says) b c (y ∷ []) r
labelled_as_another b c x y (Ok u) f h =
    let one = one_label h in
    labelled_one (Ok u) (record { label = one.label; said = one.said; grown = λ s k. one.grown s (f s k) }) tt
labelled_as_another b c x y (Err e) f h = labelled_one (Err e) tt (no_label h)

module _ {S R E F : Type 0} {view : BuilderView S R E F} (ring : RingLaws view) (laws : BuilderLaws view) where
  open view use {has, ring_of, reads_as, kept, grew, missing, refuses}

  -- what was made is of the ring
  pub made_has : (b : S) (t : Term F) (table : List E) (p : ℕ) → HasAt (IsMade (MeansIn view) missing b t) table p → HasAt (has (ring_of b)) table p
  made_has b t table p h = (h.0, h.1, ring.means_has (ring_of b) h.0 (with_leaves (reads_as b) t) h.2.meant)

  -- and stays of it
  pub element_stays : (a b : S) (table : List E) (p : ℕ) (x : E) → kept a b → HasAt (has (ring_of a)) table p → slice_get table p ≡ Some x → has (ring_of b) x
  element_stays a b table p x k h at = read_is (has (ring_of b)) table p x (h.0, h.1, ring.has_stays (ring_of a) (ring_of b) h.0 (laws.ring_kept a b k) h.2) at

  pub asserts_at_kept : (table : List E) (a b : S) → kept a b → (p : ℕ) (s : Assertion F) → AssertsAt (MeansIn view) table a p s → AssertsAt (MeansIn view) table b p s
  asserts_at_kept table a b k p s h = (h.0, h.1, asserts_kept ring laws Base (λ t. t) a b k h.0 s h.2)

  -- one element was asserted, or refused, as another is
  pub as_another : {I J : Type 0} {asserts : S → I → Assertion F → Type 0} {other : S → J → Assertion F → Type 0} (b c : S) (x : I) (y : J) (r : Result (Unit {0}) AirError)
      → ((s : Assertion F) → other b y s → asserts b x s) → AssertedEach asserts kept grew refuses b c (x ∷ []) r → AssertedEach other kept grew refuses b c (y ∷ []) r
  as_another b c x y (Ok u) f h = asserted_one (Ok u) h.keeps (λ s k. grew_one h s (f s k)) tt tt
  as_another b c x y (Err e) f h = asserted_one (Err e) h.keeps tt (grew_none h) (λ s k. refused_one h s (f s k))

  -- the expression of a place was asserted, or refused
  at_place : (b c : S) (table : List E) (p : ℕ) (x : E) (r : Result (Unit {0}) AirError) → slice_get table p ≡ Some x
      → AssertedEach (AssertsOf Base (MeansIn view) (λ t. t)) kept grew refuses b c (x ∷ []) r
      → AssertedEach (AssertsAt (MeansIn view) table) kept grew refuses b c (p ∷ []) r
  at_place b c table p x r at h = as_another b c x p r (λ s k. read_is _ table p x k at) h

  -- no place yet
  pub no_place : {a : S} (table : List E) → AssertedEach (AssertsAt (MeansIn view) table) kept grew refuses a a [] (Ok tt)
  no_place {a} table = nothing_asserted laws (AssertsAt (MeansIn view) table) (asserts_at_kept table) a

  -- one place after another
  pub place_more : {a b c : S} {u v : Unit {0}} (table : List E) (places : List ℕ) (i p : ℕ) (x : E) → i < length places → p ≡ get_or places i p → slice_get table p ≡ Some x
      → AssertedEach (AssertsAt (MeansIn view) table) kept grew refuses a b (take i places) (Ok u)
      → AssertedEach (AssertsOf Base (MeansIn view) (λ t. t)) kept grew refuses b c (x ∷ []) (Ok v)
      → AssertedEach (AssertsAt (MeansIn view) table) kept grew refuses a c (take (i + 1) places) (Ok tt)
  place_more {a} {b} {c} {u} {v} table places i p x lt is at h k =
      asserted_more laws (AssertsAt (MeansIn view) table) (asserts_at_kept table) {a = a} {b = b} {c = c} places i p lt is h (at_place b c table p x (Ok v) at k)

  pub place_refused : {a b c : S} {u : Unit {0}} {e : AirError} {result : Result (Unit {0}) AirError} (table : List E) (places : List ℕ) (i p : ℕ) (x : E) → i < length places
      → p ≡ get_or places i p → slice_get table p ≡ Some x
      → AssertedEach (AssertsAt (MeansIn view) table) kept grew refuses a b (take i places) (Ok u)
      → AssertedEach (AssertsOf Base (MeansIn view) (λ t. t)) kept grew refuses b c (x ∷ []) (Err e) → IsErrAnd result (λ y. y ≡ e)
      → AssertedEach (AssertsAt (MeansIn view) table) kept grew refuses a c places result
  place_refused {a} {b} {c} {u} {e} table places i p x lt is at h k given =
      asserted_refused laws (AssertsAt (MeansIn view) table) (asserts_at_kept table) {a = a} {b = b} {c = c} places i p lt is h (at_place b c table p x (Err e) at k) given

  pub all_places : {a b : S} {u : Unit {0}} (table : List E) (places : List ℕ) (i : ℕ) → length places ≤ i
      → AssertedEach (AssertsAt (MeansIn view) table) kept grew refuses a b (take i places) (Ok u)
      → AssertedEach (AssertsAt (MeansIn view) table) kept grew refuses a b places (Ok tt)
  all_places {a} {b} table places i end h = asserted_all laws (AssertsAt (MeansIn view) table) (asserts_at_kept table) {a = a} {b = b} places i end h

  -- what each element asserts was made, and asserted
  pub list_asserted : {I : Type 0} (asserts : S → I → Assertion F → Type 0) (a b d : S) (xs : List I) (ss : List (Assertion F)) (r : Result (Unit {0}) AirError) → grew a b []
      → AllZip (asserts b) xs ss → EachLeafOf (λ l. missing a l → ⊥) ss
      → AssertedEach asserts kept grew refuses b d xs r
      → AssertedList kept grew missing (OrMemory refuses) a d r ss
  list_asserted asserts a b d xs ss (Ok u) g each there h = record {
    asserted = record {
      keeps = laws.kept_joined a b d (laws.by_growth a b [] g) h.keeps;
      ok = laws.joined a b d [] ss g (h.ok ss each);
      err = tt;
      refused = tt;
    };
    there = none_missing (missing a) ss there;
  }
  list_asserted asserts a b d xs ss (Err e) g each there h =
      let len = sym (AllZip-long _ xs ss each) in
      let within = h.err.within in
      record {
        asserted = record {
          keeps = laws.kept_joined a b d (laws.by_growth a b [] g) h.keeps;
          ok = tt;
          err = record {
            count = h.err.count;
            within = omega (arith, len, within);
            beginning = laws.joined a b d [] (take h.err.count ss) g (h.err.beginning (take h.err.count ss) (AllZip-take _ h.err.count xs ss each));
          };
          refused = inr (laws.refuses_then a b e [] ss g (h.refused ss each));
        };
        there = tt;
      }

  -- each root's expression was made, and asserted to be zero
  pub roots_asserted : (a b d : S) (table : List E) (places : List ℕ) (ts : List (Term F)) (r : Result (Unit {0}) AirError) → grew a b []
      → AllZip (AssertsAt (MeansIn view) table b) places (map (λ t. Base t) ts) → All (λ t. EachLeaf (λ l. missing a l → ⊥) t) ts
      → AssertedEach (AssertsAt (MeansIn view) table) kept grew refuses b d places r
      → AssertedList kept grew missing (OrMemory refuses) a d r (map (λ t. Base t) ts)
  roots_asserted a b d table places ts r g each there h =
      list_asserted (AssertsAt (MeansIn view) table) a b d places (map (λ t. Base t) ts) r g each (leaves_of (λ l. missing a l → ⊥) ts there) h

  -- of no roots nothing is asserted
  pub none_asserted : (a : S) → AssertedList kept grew missing (OrMemory refuses) a a (Ok tt) []
  none_asserted a = let none : List (Assertion F) = [] in record {
    asserted = record { keeps = laws.by_growth a a [] (laws.same a); ok = laws.same a; err = tt; refused = tt };
    there = none_missing (missing a) none tt;
  }

  -- the making of the expressions was refused
  pub list_refused : (a b : S) (e : AirError) (ss : List (Assertion F)) → 0 < length ss → grew a b [] → OrMemory refuses a e ss
      → AssertedList kept grew missing (OrMemory refuses) a b (Err e) ss
  list_refused a b e ss some g f = record {
    asserted = record {
      keeps = laws.by_growth a b [] g;
      ok = tt;
      err = record { count = 0; within = some; beginning = g };
      refused = f;
    };
    there = tt;
  }

  pub making_refused : (a b : S) (e : AirError) (ts : List (Term F)) → 0 < length ts → grew a b []
      → ((ss : List (Assertion F)) → All (λ u. PartOf u ss) ts → OrMemory refuses a e ss)
      → AssertedList kept grew missing (OrMemory refuses) a b (Err e) (map (λ u. Base u) ts)
  making_refused a b e ts some g f =
      let ss : List (Assertion F) = map (λ u. Base u) ts in
      let len : length ss ≡ length ts = length-map ts (λ (u : Term F). Base u) in
      list_refused a b e ss (omega (arith, len, some)) g (f ss (all_parts ts))
