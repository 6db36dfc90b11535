-- The laws of a builder's ring over the extension.
use Rattle.std.specs.Prelude.{◌≡◌, ◌⊎◌, ℕ, List, []}
use Rattle.air_field.specs.Term.{Term, permutation, with_leaves}
use Rattle.air_field.specs.declared.errors.RingError.{RingError}
use Rattle.air_core.specs.declared.errors.AirError.{AirError}
use Rattle.air_core.specs.declared.errors.AirError.TheVariants.{NoPermutation}
use Rattle.air_builder.specs.Assertion.{Assertion}
use Rattle.air_builder.specs.Builders.{BuilderView}
use Rattle.air_core.specs.Errors.{air_error}
use Rattle.air_builder.specs.Refusals.{PartOf}

-- why there is no window of the permutation trace: the builder may refuse even without an assertion, or it has no
-- permutation column
abbrev pub RefusesWindow : {S R E F : Type 0} → BuilderView S R E F → S → AirError → Type 0
RefusesWindow view a e = view.refuses a e [] ⊎ ((e ≡ NoPermutation) × ((o i : ℕ) → view.missing a (permutation o i)))

-- A builder's view of its ring over the extension: the ghost members of this ring, whose refusals are `ring_refuses`, the
-- lent ring, and the builder with another one.
pub record ExtensionView (S X B E F : Type 0) : Type 1 where
  pub valid : X → Type 0
  pub has : X → E → Type 0
  pub means : X → E → Term F → Type 0
  pub extends : X → X → Type 0
  pub ring_refuses : RingError → Term F → Type 0
  pub base_has : X → B → Type 0
  pub base_means : X → B → Term F → Type 0
  pub ring_of : S → X
  pub with_ring : S → X → S

-- the builder's view with its ring over the extension in place of its base ring
abbrev pub over_view : {S R X B E F : Type 0} → BuilderView S R B F → ExtensionView S X B E F → BuilderView S X E F
over_view view over = record {
  valid = over.valid;
  has = over.has;
  means = over.means;
  extends = over.extends;
  ring_refuses = over.ring_refuses;
  ring_of = over.ring_of;
  with_ring = over.with_ring;
  reads_as = view.reads_as;
  ready = view.ready;
  kept = view.kept;
  grew = view.grew;
  missing = view.missing;
  refuses = view.refuses;
}

-- The laws of every builder's ring over the extension. Lending it grows nothing; what it had, it still has; an element of
-- the base ring is in the base of this one, and means the same term there.
pub record ExtensionRingLaws {S R X B E F : Type 0} (view : BuilderView S R B F) (over : ExtensionView S X B E F)
    : Type 0 where
  pub ext_ring_lent : (a : S) (r : X) → over.extends (over.ring_of a) r → view.grew a (over.with_ring a r) []
  pub ext_ring_with : (a : S) (r : X) → over.ring_of (over.with_ring a r) ≡ r
  pub ext_ring_valid : (a : S) → view.ready a → over.valid (over.ring_of a)
  pub ext_ring_kept : (a b : S) → view.kept a b → over.extends (over.ring_of a) (over.ring_of b)
  pub has_base : (a : S) (x : B) → view.ready a → view.has (view.ring_of a) x → over.base_has (over.ring_of a) x
  pub means_base : (a : S) (x : B) (t : Term F) → view.ready a
      → view.means (view.ring_of a) x t → over.base_means (over.ring_of a) x t
  pub refuses_in_ext_ring : (a : S) (e : RingError) (t : Term F) (ts : List (Assertion F))
      → over.ring_refuses e (with_leaves (view.reads_as a) t) → PartOf t ts → view.refuses a (air_error e) ts
