-- Assertions through a filter.
use Rattle.std.proofs.Common.{◌≡◌, ℕ, List, [], ◌∷◌, Option, Result, Ok, Err, refl, sym, ap, subst, ◌∙◌}
use Rattle.std.proofs.lemmas.Result.{err_from_is_err_and}
use Rattle.std.specs.Result.{IsErrAnd}
use Rattle.air_field.specs.Term.{Term, with_leaves}
use Rattle.air_field.specs.declared.errors.RingError.{RingError}
use Rattle.air_core.specs.declared.errors.AirError.{AirError}
use Rattle.air_core.specs.Errors.{air_error}
use Rattle.air_builder.specs.Assertion.{Assertion, filter_by}
use Rattle.air_builder.specs.Batches.{AssertsOf, AssertedEach}
use Rattle.air_builder.specs.Builders.{MeansIn, BuilderView, RingLaws, BuilderLaws}
use Rattle.air_builder.specs.Filters.{KeptInside, GrewUnder, RefusesUnder}
use Rattle.air_builder.specs.Labels.{Labelled, LabelledEach, NamedLaws}
use Rattle.air_builder.specs.NamedFilters.{filtered_label}
use Rattle.air_builder.specs.Refusals.{PartOf}
use Rattle.air_builder.specs.laws.Batches.{asserted_one, grew_one, grew_none, refused_one}
use Rattle.air_builder.specs.laws.Labels.{labelled_one, one_label, no_label}
use Rattle.air_builder.specs.laws.Growth.{means_in, lent_means, refuses_part, lent_asserted, making_refused}
use Rattle.air_builder.specs.laws.LabelGrowth.{NamedOne, lent_named, making_unnamed}

-- an assertion that the filter makes in the builder inside: the element's own, under the term that the condition means
pub record AssertsUnder {S B I F : Type 0} (means : S → B → Term F → Type 0) (asserts : S → I → Assertion F → Type 0)
    (a : S) (p : B × I) (s : Assertion F) : Type 0 where
  pub condition : Term F
  pub holds : means a p.0 condition
  pub alone : Assertion F
  pub asserted : asserts a p.1 alone
  pub is : s ≡ filter_by condition alone

module _ {S B F I N P X : Type 0} {kept : S → S → Type 0} {grew : S → S → List (Assertion F) → Type 0}
    {refuses : S → X → List (Assertion F) → Type 0} {means : S → B → Term F → Type 0}
    {asserts : S → I → Assertion F → Type 0} (inner : P → S) (name : P → N) (condition : P → B) {p q : P} {x : I}
    (name_is : name q ≡ name p) (condition_is : condition q ≡ condition p) where
  -- an assertion inside under the condition is an assertion on the filter
  asserted_inside : (result : Result (Unit {0}) X)
      → AssertedEach (AssertsUnder means asserts) kept grew refuses (inner p) (inner q) ((condition p, x) ∷ []) result
      → AssertedEach (λ f. asserts (inner f))
      (λ f g. KeptInside kept (name f) (name g) (condition f) (condition g) (inner f) (inner g))
      (λ f g ts. GrewUnder filter_by kept grew means (name f) (name g) (condition f) (condition g) (inner f) (inner g) ts)
      (λ f e ts. RefusesUnder refuses means (condition f) (inner f) e ts) p q (x ∷ []) result
  asserted_inside (Ok u) h =
      let keeps : KeptInside kept (name p) (name q) (condition p) (condition q) (inner p) (inner q) = record { same_reference = name_is; same_condition = condition_is; inside = h.keeps } in
      asserted_one (Ok u) keeps
      (λ s k. record { keeps = keeps; by = λ c m. grew_one h (filter_by c s) (record { condition = c; holds = m; alone = s; asserted = k; is = refl }) }) tt tt
  asserted_inside (Err e) h =
      let keeps : KeptInside kept (name p) (name q) (condition p) (condition q) (inner p) (inner q) = record { same_reference = name_is; same_condition = condition_is; inside = h.keeps } in
      asserted_one (Err e) keeps tt (record { keeps = keeps; by = λ c m. grew_none h })
      (λ s k c m. refused_one h (filter_by c s) (record { condition = c; holds = m; alone = s; asserted = k; is = refl }))

module _ {S B F I N P : Type 0} {kept : S → S → Type 0} {labelled : S → S → List (Labelled F) → Type 0}
    {means : S → B → Term F → Type 0} {asserts : S → I → Assertion F → Type 0} {says : Option (List ℕ) → Type 0}
    (inner : P → S) (name : P → N) (condition : P → B) {p q : P} {x : I}
    (keeps : KeptInside kept (name p) (name q) (condition p) (condition q) (inner p) (inner q)) where
  -- an assertion inside under a label is an assertion on the filter under that label
  labelled_inside : (result : Result (Unit {0}) AirError)
      → LabelledEach (AssertsUnder means asserts) labelled (λ i. says) (inner p) (inner q) ((condition p, x) ∷ []) result
      → LabelledEach (λ f. asserts (inner f))
      (λ f g ls. GrewUnder filtered_label kept labelled means (name f) (name g) (condition f) (condition g) (inner f) (inner g) ls)
      (λ i. says) p q (x ∷ []) result
  labelled_inside (Ok u) h =
      let one = one_label h in
      labelled_one (Ok u)
      (record { label = one.label; said = one.said; grown = λ s k. record { keeps = keeps; by = λ c m. one.grown (filter_by c s) (record { condition = c; holds = m; alone = s; asserted = k; is = refl }) } })
      tt
  labelled_inside (Err e) h = labelled_one (Err e) tt (record { keeps = keeps; by = λ c m. no_label h })

-- The lent ring makes z from x under the condition, and z is asserted inside; or the ring refuses. `under` is the operation
-- on the two terms, and `held` holds of the condition's term in the ring.
module _ {S R B E F N P : Type 0} {view : BuilderView S R E F} (ring : RingLaws view) (laws : BuilderLaws view)
    (kind : Term F → Assertion F) (under : Term F → Term F → Term F)
    (is_under : (c t : Term F) → filter_by c (kind t) ≡ kind (under c t))
    (inner : P → S) (name : P → N) (condition : P → B) (means : S → B → Term F → Type 0) where
  open view use {ring_refuses, with_ring, reads_as, kept, grew, refuses}

  -- the assertion of x inside, under the condition
  abbrev Under : S → B × E → Assertion F → Type 0
  Under = AssertsUnder means (AssertsOf kind (MeansIn view) (λ t. t))

  -- the assertion of x on the filter, and how the filter grows
  abbrev Here : P → E → Assertion F → Type 0
  Here f = AssertsOf kind (MeansIn view) (λ t. t) (inner f)

  abbrev KeptHere : P → P → Type 0
  KeptHere f g = KeptInside kept (name f) (name g) (condition f) (condition g) (inner f) (inner g)

  abbrev GrewHere : P → P → List (Assertion F) → Type 0
  GrewHere f g ts = GrewUnder filter_by kept grew means (name f) (name g) (condition f) (condition g) (inner f) (inner g) ts

  abbrev RefusesHere : P → AirError → List (Assertion F) → Type 0
  RefusesHere f e ts = RefusesUnder refuses means (condition f) (inner f) e ts

  abbrev LabelledHere : (S → S → List (Labelled F) → Type 0) → P → P → List (Labelled F) → Type 0
  LabelledHere labelled f g ls =
      GrewUnder filtered_label kept labelled means (name f) (name g) (condition f) (condition g) (inner f) (inner g) ls

  module _ (held : Term F → Type 0) {p q : P} {o r : R} (value : o ≡ view.ring_of (inner p)) (extended : view.extends o r)
      (holds : (c : Term F) → means (inner p) (condition p) c → held (with_leaves (reads_as (inner p)) c))
      (through : (c t : Term F) → under (with_leaves (reads_as (inner p)) c) (with_leaves (reads_as (inner p)) t)
      ≡ with_leaves (reads_as (inner p)) (under c t))
      (name_is : name q ≡ name p) (condition_is : condition q ≡ condition p) {x : E} where
    made_under : {z : E} → ((c t : Term F) → held c → view.means o x t → view.means r z (under c t))
        → (s : Assertion F) → Under (inner p) (condition p, x) s
        → AssertsOf kind (MeansIn view) (λ t. t) (with_ring (inner p) r) z s
    made_under {z} m s k =
        let c = k.condition in
        let t = k.asserted.0 in
        let below = with_leaves (reads_as (inner p)) t in
        let made = m (with_leaves (reads_as (inner p)) c) below (holds c k.holds) (means_in view.means x below value k.asserted.1) in (
          under c t,
          lent_means ring laws (inner p) o r z (under c t) value extended (subst (λ v. view.means r z v) (through c t) made),
          k.is ∙ ap (λ u. filter_by c u) k.asserted.2 ∙ is_under c t,
        )

    refused_under : ((t : Term F) → PartOf t (kind t ∷ [])) → (f : RingError)
        → ((c t : Term F) → held c → view.means o x t → ring_refuses f (under c t))
        → (s : Assertion F) → Under (inner p) (condition p, x) s → refuses (inner p) (air_error f) (s ∷ [])
    refused_under inside f m s k =
        let c = k.condition in
        let t = k.asserted.0 in
        let below = with_leaves (reads_as (inner p)) t in
        let refused = m (with_leaves (reads_as (inner p)) c) below (holds c k.holds) (means_in view.means x below value k.asserted.1) in
        refuses_part ring laws kind inside value f (under c t) s (k.is ∙ ap (λ u. filter_by c u) k.asserted.2 ∙ is_under c t)
        (subst (λ v. ring_refuses f v) (through c t) refused)

    pub filter_asserted : {z : E} {result : Result (Unit {0}) AirError}
        → ((c t : Term F) → held c → view.means o x t → view.means r z (under c t))
        → AssertedEach (AssertsOf kind (MeansIn view) (λ t. t)) kept grew refuses (with_ring (inner p) r) (inner q) (z ∷ []) result
        → AssertedEach Here KeptHere GrewHere RefusesHere p q (x ∷ []) result
    filter_asserted {result = result} m h =
        asserted_inside {means = means} {asserts = AssertsOf kind (MeansIn view) (λ t. t)} inner name condition name_is condition_is result
        (lent_asserted laws value extended result (made_under m) h)

    pub filter_gives_up : {f : RingError} {result : Result (Unit {0}) AirError} → ((t : Term F) → PartOf t (kind t ∷ []))
        → inner q ≡ with_ring (inner p) r → IsErrAnd result (λ y. y ≡ air_error f)
        → ((c t : Term F) → held c → view.means o x t → ring_refuses f (under c t))
        → AssertedEach Here KeptHere GrewHere RefusesHere p q (x ∷ []) result
    filter_gives_up {f} {result} inside done is m =
        let i = err_from_is_err_and result is in
        rw (i.1, i.2)
        (asserted_inside {means = means} {asserts = AssertsOf kind (MeansIn view) (λ t. t)} inner name condition name_is condition_is (Err (air_error f))
        (subst (λ b. AssertedEach Under kept grew refuses (inner p) b ((condition p, x) ∷ []) (Err (air_error f))) (sym done)
        (making_refused laws value extended (air_error f) (refused_under inside f m))))

    module _ {labelled : S → S → List (Labelled F) → Type 0} (named : NamedLaws grew labelled) where
      named_inside : {says : Option (List ℕ) → Type 0} (answer : Result (Unit {0}) AirError)
          → NamedOne Under kept grew refuses labelled says (inner p) (inner q) (condition p, x) answer
          → NamedOne Here KeptHere GrewHere RefusesHere (LabelledHere labelled) says p q x answer
      named_inside answer h =
          let a = asserted_inside {means = means} {asserts = AssertsOf kind (MeansIn view) (λ t. t)} inner name condition name_is condition_is answer h.asserted in
          record {
            asserted = a;
            label = labelled_inside {means = means} {asserts = AssertsOf kind (MeansIn view) (λ t. t)} inner name condition a.keeps answer h.label;
          }

      pub filter_named : {says : Option (List ℕ) → Type 0} {z : E} {result : Result (Unit {0}) AirError}
          → ((c t : Term F) → held c → view.means o x t → view.means r z (under c t))
          → AssertedEach (AssertsOf kind (MeansIn view) (λ t. t)) kept grew refuses (with_ring (inner p) r) (inner q) (z ∷ []) result
          → LabelledEach (AssertsOf kind (MeansIn view) (λ t. t)) labelled (λ i. says) (with_ring (inner p) r) (inner q) (z ∷ []) result
          → NamedOne Here KeptHere GrewHere RefusesHere (LabelledHere labelled) says p q x result
      filter_named {result = result} m h l = named_inside result (lent_named laws named value extended result (made_under m) h l)

      pub filter_unnamed : {says : Option (List ℕ) → Type 0} {f : RingError} {result : Result (Unit {0}) AirError}
          → ((t : Term F) → PartOf t (kind t ∷ [])) → inner q ≡ with_ring (inner p) r → IsErrAnd result (λ y. y ≡ air_error f)
          → ((c t : Term F) → held c → view.means o x t → ring_refuses f (under c t))
          → NamedOne Here KeptHere GrewHere RefusesHere (LabelledHere labelled) says p q x result
      filter_unnamed {says} {f} {result} inside done is m =
          let i = err_from_is_err_and result is in
          rw (i.1, i.2)
          (named_inside (Err (air_error f))
          (subst (λ b. NamedOne Under kept grew refuses labelled says (inner p) b (condition p, x) (Err (air_error f))) (sym done)
          (making_unnamed laws named value extended (air_error f) (refused_under inside f m))))
