-- Builders over an extension under a filter.
use Rattle.air_field.specs.Term.{Term, mul_term}
use Rattle.air_builder.specs.Extensions.{ExtensionView}

-- z is an element that means the term of x times the term of the condition c in the base
abbrev pub MadeUnder : {R E B F : Type 0} → (R → E → Type 0) → (R → E → Term F → Type 0) → (R → B → Term F → Type 0) → R → R → B → E → E → Type 0
MadeUnder {F = F} has means base_means old new c x z = has new z × ((s t : Term F) → base_means old c s → means old x t → means new z (mul_term t s))

-- the product of x and the condition c may be refused with e
abbrev pub RefusedUnder : {R E B F X : Type 0} → (R → E → Term F → Type 0) → (R → B → Term F → Type 0) → (X → Term F → Type 0) → R → B → E → X → Type 0
RefusedUnder {F = F} means base_means refuses old c x e = (s t : Term F) → base_means old c s → means old x t → refuses e (mul_term t s)

-- a filter's ring over the extension: that of the builder inside
abbrev pub filter_extension : {S X B E F P : Type 0} → ExtensionView S X B E F → (P → S) → (P → S → P)
    → ExtensionView P X B E F
filter_extension over inner with_inner = record {
  valid = over.valid;
  has = over.has;
  means = over.means;
  extends = over.extends;
  ring_refuses = over.ring_refuses;
  base_has = over.base_has;
  base_means = over.base_means;
  ring_of = λ p. over.ring_of (inner p);
  with_ring = λ p r. with_inner p (over.with_ring (inner p) r);
}
