-- Growth after a ring was lent.
use Rattle.std.specs.Prelude.{⊤}
use Rattle.std.proofs.Common.{◌≡◌, List, [], ◌∷◌, Result, Ok, Err, subst, sym}
use Rattle.std.proofs.lemmas.Result.{err_from_is_err_and}
use Rattle.std.specs.Result.{IsErrAnd}
use Rattle.air_field.specs.Term.{Term, with_leaves}
use Rattle.air_field.specs.declared.errors.RingError.{RingError}
use Rattle.air_core.specs.declared.errors.AirError.{AirError}
use Rattle.air_builder.specs.Assertion.{Assertion}
use Rattle.air_builder.specs.Batches.{AssertsOf, AssertsOfBoth, AssertedEach}
use Rattle.air_builder.specs.Builders.{MeansIn, BuilderView, RingLaws, BuilderLaws}
use Rattle.air_builder.specs.Refusals.{PartOf}
use Rattle.air_builder.specs.laws.Batches.{asserted_one, grew_one, grew_none, refused_one}
use Rattle.air_core.specs.Errors.{air_error}
use Rattle.air_builder.specs.laws.Filters.{means_lent}

-- an element of the builder's ring means the same term in the lent ring
pub means_in : {R E F : Type 0} (means : R → E → Term F → Type 0) {q r : R} (x : E) (t : Term F) → q ≡ r → means r x t → means q x t
means_in means x t e m = subst (λ r. means r x t) (sym e) m

module _ {S R E F : Type 0} {view : BuilderView S R E F} (laws : BuilderLaws view) where
  open view use {extends, ring_of, with_ring, ready, kept, grew, refuses}

  pub lent : (a : S) (q r : R) → q ≡ ring_of a → extends q r → grew a (with_ring a r) []
  lent a q r p e = laws.ring_lent a r (subst (λ s. extends s r) p e)

  pub lent_then : (a b : S) (q r : R) (ts : List (Assertion F)) → q ≡ ring_of a → extends q r → grew (with_ring a r) b ts → grew a b ts
  lent_then a b q r ts p e g = laws.joined a (with_ring a r) b [] ts (lent a q r p e) g

  pub lent_kept : (a b : S) (q r : R) → q ≡ ring_of a → extends q r → kept (with_ring a r) b → kept a b
  lent_kept a b q r p e k = laws.kept_joined a (with_ring a r) b (laws.by_growth a (with_ring a r) [] (lent a q r p e)) k

  pub lent_refused : (a : S) (q r : R) (e : AirError) (ts : List (Assertion F)) → q ≡ ring_of a → extends q r
      → refuses (with_ring a r) e ts → refuses a e ts
  lent_refused a q r e ts p x h = laws.refuses_then a (with_ring a r) e [] ts (lent a q r p x) h

module _ {S R E F : Type 0} {view : BuilderView S R E F} (ring : RingLaws view) (laws : BuilderLaws view) where
  open view use {means, extends, ring_refuses, ring_of, with_ring, reads_as, grew, refuses}

  pub lent_means : (a : S) (q r : R) (x : E) (t : Term F) → q ≡ ring_of a → extends q r
      → means r x (with_leaves (reads_as a) t) → MeansIn view (with_ring a r) x t
  lent_means a q r x t p e m = means_lent ring laws a r x t (subst (λ s. extends s r) p e) m

  module _ (kind : Term F → Assertion F) {a : S} {q r : R} (p : q ≡ ring_of a) (e : extends q r) where
    -- an assertion of an operation on x is an assertion of the element z that the lent ring made
    pub made_of : (op : Term F → Term F) {x z : E} → ((t : Term F) → op (with_leaves (reads_as a) t) ≡ with_leaves (reads_as a) (op t))
        → ((t : Term F) → means q x t → means r z (op t))
        → (s : Assertion F) → AssertsOf kind (MeansIn view) op a x s
        → AssertsOf kind (MeansIn view) (λ t. t) (with_ring a r) z s
    made_of op {x} {z} through m s h =
        let below = with_leaves (reads_as a) h.0 in
        let made = subst (λ v. means r z v) (through h.0) (m below (means_in means x below p h.1)) in
        (op h.0, lent_means a q r z (op h.0) p e made, h.2)

    -- an assertion of an operation on x and y is an assertion of the element z that the lent ring made
    pub made_of_both : (op : Term F → Term F → Term F) {x y z : E}
        → ((t u : Term F) → op (with_leaves (reads_as a) t) (with_leaves (reads_as a) u) ≡ with_leaves (reads_as a) (op t u))
        → ((t u : Term F) → means q x t → means q y u → means r z (op t u))
        → (s : Assertion F) → AssertsOfBoth kind (MeansIn view) op a (x, y) s
        → AssertsOf kind (MeansIn view) (λ t. t) (with_ring a r) z s
    made_of_both op {x} {y} {z} through m s h =
        let first = with_leaves (reads_as a) h.0 in
        let second = with_leaves (reads_as a) h.1 in
        let made = m first second (means_in means x first p h.2) (means_in means y second p h.3) in
        (op h.0 h.1, lent_means a q r z (op h.0 h.1) p e (subst (λ v. means r z v) (through h.0 h.1) made), h.4)

  module _ (kind : Term F → Assertion F) (inside : (t : Term F) → PartOf t (kind t ∷ [])) {a : S} {q : R}
      (p : q ≡ ring_of a) where
    -- the lent ring refused the operation
    pub refuses_part : (f : RingError) (t : Term F) (s : Assertion F) → s ≡ kind t → ring_refuses f (with_leaves (reads_as a) t)
        → refuses a (air_error f) (s ∷ [])
    refuses_part f t s is h =
        subst (λ v. refuses a (air_error f) (v ∷ [])) (sym is) (laws.refuses_in_ring a f t (kind t ∷ []) h (inside t))

    pub refused_of : (op : Term F → Term F) (f : RingError) {x : E}
        → ((t : Term F) → op (with_leaves (reads_as a) t) ≡ with_leaves (reads_as a) (op t))
        → ((t : Term F) → means q x t → ring_refuses f (op t))
        → (s : Assertion F) → AssertsOf kind (MeansIn view) op a x s → refuses a (air_error f) (s ∷ [])
    refused_of op f {x} through m s h =
        let below = with_leaves (reads_as a) h.0 in
        refuses_part f (op h.0) s h.2 (subst (λ v. ring_refuses f v) (through h.0) (m below (means_in means x below p h.1)))

    pub refused_of_both : (op : Term F → Term F → Term F) (f : RingError) {x y : E}
        → ((t u : Term F) → op (with_leaves (reads_as a) t) (with_leaves (reads_as a) u) ≡ with_leaves (reads_as a) (op t u))
        → ((t u : Term F) → means q x t → means q y u → ring_refuses f (op t u))
        → (s : Assertion F) → AssertsOfBoth kind (MeansIn view) op a (x, y) s → refuses a (air_error f) (s ∷ [])
    refused_of_both op f {x} {y} through m s h =
        let first = with_leaves (reads_as a) h.0 in
        let second = with_leaves (reads_as a) h.1 in
        let refused = m first second (means_in means x first p h.2) (means_in means y second p h.3) in
        refuses_part f (op h.0 h.1) s h.4 (subst (λ v. ring_refuses f v) (through h.0 h.1) refused)

module _ {S R E F : Type 0} {view : BuilderView S R E F} (laws : BuilderLaws view) where
  open view use {extends, ring_of, with_ring, kept, grew, refuses}

  module _ {I : Type 0} {asserts : S → I → Assertion F → Type 0} {a : S} {q r : R} {x : I} (p : q ≡ ring_of a) (e : extends q r) where
    -- The lent ring made z from x, z asserts what x asserts, and z was asserted: so was x.
    pub lent_asserted : {J : Type 0} {made : S → J → Assertion F → Type 0} {b : S} {z : J} (result : Result ⊤ AirError)
        → ((s : Assertion F) → asserts a x s → made (with_ring a r) z s)
        → AssertedEach made kept grew refuses (with_ring a r) b (z ∷ []) result
        → AssertedEach asserts kept grew refuses a b (x ∷ []) result
    lent_asserted {b = b} (Ok u) m h =
        asserted_one (Ok u) (lent_kept laws a b q r p e h.keeps)
        (λ s k. lent_then laws a b q r (s ∷ []) p e (grew_one h s (m s k))) tt tt
    lent_asserted {b = b} (Err f) m h =
        asserted_one (Err f) (lent_kept laws a b q r p e h.keeps) tt (lent_then laws a b q r [] p e (grew_none h))
        (λ s k. lent_refused laws a q r f (s ∷ []) p e (refused_one h s (m s k)))

    -- the lent ring refused to make it
    pub making_refused : (f : AirError) → ((s : Assertion F) → asserts a x s → refuses a f (s ∷ []))
        → AssertedEach asserts kept grew refuses a (with_ring a r) (x ∷ []) (Err f)
    making_refused f h =
        let none = lent laws a q r p e in
        asserted_one (Err f) (laws.by_growth a (with_ring a r) [] none) tt none h

-- An operation of the lent ring made an element from one or two others, and that was asserted; or a `?` returns the ring's
-- refusal.
module _ {S R E F : Type 0} {view : BuilderView S R E F} (ring : RingLaws view) (laws : BuilderLaws view)
    (kind : Term F → Assertion F) {a : S} {q r : R} (p : q ≡ view.ring_of a) (e : view.extends q r) where
  open view use {means, ring_refuses, with_ring, reads_as, kept, grew, refuses}

  module _ (op : Term F → Term F) (through : (t : Term F) → op (with_leaves (reads_as a) t) ≡ with_leaves (reads_as a) (op t)) where
    pub one_asserted : {b : S} {x z : E} {result : Result ⊤ AirError}
        → ((t : Term F) → means q x t → means r z (op t))
        → AssertedEach (AssertsOf kind (MeansIn view) (λ t. t)) kept grew refuses (with_ring a r) b (z ∷ []) result
        → AssertedEach (AssertsOf kind (MeansIn view) op) kept grew refuses a b (x ∷ []) result
    one_asserted {result = result} m h = lent_asserted laws p e result (made_of ring laws kind p e op through m) h

    pub one_gives_up : {x : E} {f : RingError} {result : Result ⊤ AirError}
        → ((t : Term F) → PartOf t (kind t ∷ [])) → ((t : Term F) → means q x t → ring_refuses f (op t))
        → IsErrAnd result (λ y. y ≡ air_error f)
        → AssertedEach (AssertsOf kind (MeansIn view) op) kept grew refuses a (with_ring a r) (x ∷ []) result
    one_gives_up {f = f} {result = result} inside m is =
        let i = err_from_is_err_and result is in
        rw (i.1, i.2) (making_refused laws p e (air_error f) (refused_of ring laws kind inside p op f through m))

  module _ (op : Term F → Term F → Term F)
      (through : (t u : Term F) → op (with_leaves (reads_as a) t) (with_leaves (reads_as a) u) ≡ with_leaves (reads_as a) (op t u)) where
    pub both_asserted : {b : S} {x y z : E} {result : Result ⊤ AirError}
        → ((t u : Term F) → means q x t → means q y u → means r z (op t u))
        → AssertedEach (AssertsOf kind (MeansIn view) (λ t. t)) kept grew refuses (with_ring a r) b (z ∷ []) result
        → AssertedEach (AssertsOfBoth kind (MeansIn view) op) kept grew refuses a b ((x, y) ∷ []) result
    both_asserted {result = result} m h = lent_asserted laws p e result (made_of_both ring laws kind p e op through m) h

    pub both_gives_up : {x y : E} {f : RingError} {result : Result ⊤ AirError}
        → ((t : Term F) → PartOf t (kind t ∷ [])) → ((t u : Term F) → means q x t → means q y u → ring_refuses f (op t u))
        → IsErrAnd result (λ y. y ≡ air_error f)
        → AssertedEach (AssertsOfBoth kind (MeansIn view) op) kept grew refuses a (with_ring a r) ((x, y) ∷ []) result
    both_gives_up {f = f} {result = result} inside m is =
        let i = err_from_is_err_and result is in
        rw (i.1, i.2) (making_refused laws p e (air_error f) (refused_of_both ring laws kind inside p op f through m))
