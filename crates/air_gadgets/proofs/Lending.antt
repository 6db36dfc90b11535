-- Elements that a lent ring made and that were then asserted, or that it refused to make.
use Rattle.std.specs.List.{AllZip}
use Rattle.std.specs.Result.{IsErrAnd}
use Rattle.std.proofs.Common.{◌≡◌, ◌<◌, List, [], ◌∷◌, length, map, Result, Err, subst, sym, refl, inl, inr, arith}
use Rattle.std.proofs.lemmas.Result.{err_from_is_err_and}
use Rattle.air_field.specs.Part.{whole}
use Rattle.air_field.specs.Ring.{CommRing}
use Rattle.air_field.specs.Term.{Leaf, Term, with_leaves}
use Rattle.air_field.specs.declared.errors.RingError.{RingError}
use Rattle.air_core.specs.declared.errors.AirError.{AirError}
use Rattle.air_core.specs.Errors.{air_error}
use Rattle.air_builder.specs.Assertion.{Assertion, Base}
use Rattle.air_builder.specs.Batches.{AssertsOf, AssertedEach}
use Rattle.air_builder.specs.Builders.{MeansIn, BuilderView, RingLaws, BuilderLaws}
use Rattle.air_builder.specs.Refusals.{PartOf}
use Rattle.air_builder.specs.laws.Growth.{lent, lent_means, lent_asserted, making_refused}
use Rattle.air_gadgets.specs.Words.{Limbs}
use Rattle.air_gadgets.specs.Gadgets.{FromThree, FromFour, LimbsMean, VariableMeans, RefusesOne, Adds2, Adds3, AssertedSuch, add2_terms, add3_terms}
use Rattle.air_gadgets.proofs.Asserting.{list_of, list_of_each, list_after}

-- ---- lists zipped with one another
pub zip_mapped : {X Y : Type 0} (P : X → Y → Type 0) (f : Y → Y) (xs : List X) (ys : List Y)
    → AllZip (λ x y. P x (f y)) xs ys → AllZip P xs (map f ys)
zip_mapped P f [] [] h = h
zip_mapped P f [] (y ∷ ys) h = absurd h
zip_mapped P f (x ∷ xs) [] h = absurd h
zip_mapped P f (x ∷ xs) (y ∷ ys) h = (h.0, zip_mapped P f xs ys h.1)

-- a predicate of the terms with their leaves replaced, for a list of assertions
abbrev MadeEach : {F : Type 0} → (Leaf → Term F) → (List (Term F) → Type 0) → List (Assertion F) → Type 0
MadeEach {F = F} s P ss = (ts : List (Term F)) × P (map (with_leaves s) ts) × (ss ≡ map Base ts)

-- as `MadeEach`, for one term, where an operation on it is asserted
abbrev pub MadeOne : {F : Type 0} → (Term F → Term F) → (Leaf → Term F) → (Term F → Type 0) → Assertion F → Type 0
MadeOne {F = F} op s P x = (t : Term F) × P (with_leaves s t) × (x ≡ Base (op t))

-- the limbs with their leaves replaced
abbrev leaves_of : {F : Type 0} → (Leaf → Term F) → Limbs (Term F) → Limbs (Term F)
leaves_of s t = record { low = with_leaves s t.low; high = with_leaves s t.high }

some_refused : {X F : Type 0} (refuses : X → Term F → Type 0) (s : Leaf → Term F) (e : X) (ts : List (Term F))
    → RefusesOne refuses e (map (with_leaves s) ts) → 0 < length (map Base ts)
some_refused refuses s e [] h = absurd h
some_refused refuses s e (t ∷ ts) h = omega arith

-- if the ring refuses one of `ts`, the builder may refuse `all`, which has every part of `ts`
refused_part : {S R E F : Type 0} {view : BuilderView S R E F} (laws : BuilderLaws view) (a : S) (e : RingError) (all ts : List (Term F))
    → ((t : Term F) → PartOf t (map Base ts) → PartOf t (map Base all))
    → RefusesOne view.ring_refuses e (map (with_leaves (view.reads_as a)) ts) → view.refuses a (air_error e) (map Base all)
refused_part laws a e all [] part h = absurd h
refused_part laws a e all (t ∷ ts) part (inl h) = laws.refuses_in_ring a e t (map Base all) h (part t (inl whole))
refused_part laws a e all (t ∷ ts) part (inr h) = refused_part laws a e all ts (λ u q. part u (inr q)) h

module _ {S R E F : Type 0} {view : BuilderView S R E F} (ring : RingLaws view) (laws : BuilderLaws view)
    {a : S} {q r : R} (p : q ≡ view.ring_of a) (e : view.extends q r) where
  open view use {means, ring_refuses, ring_of, with_ring, reads_as, kept, grew, refuses}

  -- the assertions of the elements
  lent_asserts : (xs : List E) (ts : List (Term F)) → AllZip (means r) xs (map (with_leaves (reads_as a)) ts)
      → AllZip (AssertsOf Base (MeansIn view) (λ t. t) (with_ring a r)) xs (map Base ts)
  lent_asserts [] [] h = tt
  lent_asserts [] (t ∷ ts) h = absurd h
  lent_asserts (x ∷ xs) [] h = absurd h
  lent_asserts (x ∷ xs) (t ∷ ts) h = ((t, lent_means ring laws a q r x t p e h.0, refl), lent_asserts xs ts h.1)

  -- the lent ring made elements, and then each was asserted to be zero
  pub made_asserted : {is : List (Assertion F) → Type 0} {b : S} {xs : List E} (result : Result (Unit {0}) AirError)
      → ((ss : List (Assertion F)) → is ss → MadeEach (reads_as a) (AllZip (means r) xs) ss)
      → AssertedEach (AssertsOf Base (MeansIn view) (λ t. t)) kept grew refuses (with_ring a r) b xs result
      → AssertedSuch is kept grew refuses a b result
  made_asserted {xs = xs} result made h =
      list_after laws result (lent laws a q r p e)
      (list_of laws result
      (λ ss i. let m = made ss i in subst (AllZip (AssertsOf Base (MeansIn view) (λ t. t) (with_ring a r)) xs) (sym m.2) (lent_asserts xs m.0 m.1))
      (list_of_each laws result h))

  making_list_refused : {is : List (Assertion F) → Type 0} (f : RingError)
      → ((ss : List (Assertion F)) → is ss → MadeEach (reads_as a) (RefusesOne ring_refuses f) ss)
      → AssertedSuch is kept grew refuses a (with_ring a r) (Err (air_error f))
  making_list_refused f made =
      let none = lent laws a q r p e in record {
        keeps = laws.by_growth a (with_ring a r) [] none;
        ok = tt;
        err = λ ss i.
            let m = made ss i in record {
              count = 0;
              within = subst (λ v. 0 < length v) (sym m.2) (some_refused ring_refuses (reads_as a) f m.0 m.1);
              beginning = none;
            };
        refused = λ ss i.
            let m = made ss i in
            subst (refuses a (air_error f)) (sym m.2) (refused_part laws a f m.0 m.0 (λ t k. k) m.1);
      }

  -- a `?` returns the lent ring's refusal to make one of them
  pub list_gives_up : {is : List (Assertion F) → Type 0} {f : RingError} {result : Result (Unit {0}) AirError}
      → IsErrAnd result (λ y. y ≡ air_error f) → ((ss : List (Assertion F)) → is ss → MadeEach (reads_as a) (RefusesOne ring_refuses f) ss)
      → AssertedSuch is kept grew refuses a (with_ring a r) result
  list_gives_up {f = f} {result = result} given made =
      let i = err_from_is_err_and result given in
      rw (i.1, i.2) (making_list_refused f made)

  module _ {I : Type 0} {asserts : S → I → Assertion F → Type 0} {x : I} (op : Term F → Term F) where
    -- the lent ring made an element, and then that was asserted
    pub one_asserted : {b : S} {z : E} (result : Result (Unit {0}) AirError)
        → ((s : Assertion F) → asserts a x s → MadeOne op (reads_as a) (means r z) s)
        → AssertedEach (AssertsOf Base (MeansIn view) op) kept grew refuses (with_ring a r) b (z ∷ []) result
        → AssertedEach asserts kept grew refuses a b (x ∷ []) result
    one_asserted {z = z} result made h =
        lent_asserted laws p e result (λ s k. let m = made s k in (m.0, lent_means ring laws a q r z m.0 p e m.1, m.2)) h

    -- a `?` returns the lent ring's refusal to make it
    pub one_gives_up : {f : RingError} {result : Result (Unit {0}) AirError} → IsErrAnd result (λ y. y ≡ air_error f)
        → ((t : Term F) → PartOf t (Base (op t) ∷ [])) → ((s : Assertion F) → asserts a x s → MadeOne op (reads_as a) (ring_refuses f) s)
        → AssertedEach asserts kept grew refuses a (with_ring a r) (x ∷ []) result
    one_gives_up {f = f} {result = result} given inside made =
        let i = err_from_is_err_and result given in
        rw (i.1, i.2)
        (making_refused laws p e (air_error f)
        (λ s k.
        let m = made s k in
        subst (λ v. refuses a (air_error f) (v ∷ [])) (sym m.2) (laws.refuses_in_ring a f m.0 (Base (op m.0) ∷ []) m.1 (inside m.0))))

  limbs_in : (xs : List E) (t : Limbs (Term F)) → LimbsMean (MeansIn view a) xs t
      → LimbsMean (means q) xs (leaves_of (reads_as a) t)
  limbs_in xs t h =
      subst (λ s. LimbsMean (means s) xs (leaves_of (reads_as a) t)) (sym p)
      (zip_mapped (means (ring_of a)) (with_leaves (reads_as a)) xs (t.low ∷ t.high ∷ []) h)

  module _ {V : Type 0} (vm : V → Term F → Type 0) where
    limbs_of : (xs : List V) (t : Limbs (Term F)) → LimbsMean (VariableMeans vm reads_as a) xs t
        → LimbsMean vm xs (leaves_of (reads_as a) t)
    limbs_of xs t h = zip_mapped vm (with_leaves (reads_as a)) xs (t.low ∷ t.high ∷ []) h

    -- a predicate of the terms of a sum of two words made in the lent ring, and of three
    pub sum_made : (C : CommRing F) (P : List (Term F) → Type 0) (xs ys : List V) (zs : List E)
        → FromThree (add2_terms C) (LimbsMean vm xs) (LimbsMean vm ys) (LimbsMean (means q) zs) P
        → (ss : List (Assertion F)) → Adds2 C (VariableMeans vm reads_as a) (MeansIn view a) xs ys zs ss
        → MadeEach (reads_as a) P ss
    sum_made C P xs ys zs h ss w = (
      add2_terms C w.0 w.1 w.2,
      h (leaves_of (reads_as a) w.0) (leaves_of (reads_as a) w.1) (leaves_of (reads_as a) w.2)
          (limbs_of xs w.0 w.3) (limbs_of ys w.1 w.4) (limbs_in zs w.2 w.5),
      w.6,
    )

    pub sum_of_three_made : (C : CommRing F) (P : List (Term F) → Type 0) (xs ys : List V) (zs vs : List E)
        → FromFour (add3_terms C) (LimbsMean vm xs) (LimbsMean vm ys) (LimbsMean (means q) zs) (LimbsMean (means q) vs) P
        → (ss : List (Assertion F)) → Adds3 C (VariableMeans vm reads_as a) (MeansIn view a) xs ys zs vs ss
        → MadeEach (reads_as a) P ss
    sum_of_three_made C P xs ys zs vs h ss w = (
      add3_terms C w.0 w.1 w.2 w.3,
      h (leaves_of (reads_as a) w.0) (leaves_of (reads_as a) w.1) (leaves_of (reads_as a) w.2) (leaves_of (reads_as a) w.3)
          (limbs_of xs w.0 w.4) (limbs_of ys w.1 w.5) (limbs_in zs w.2 w.6) (limbs_in vs w.3 w.7),
      w.8,
    )
