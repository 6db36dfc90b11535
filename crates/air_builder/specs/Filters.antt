-- Growth through a filter.
use Rattle.std.specs.Prelude.{◌≡◌, ℕ, List, [], map, Result, IsOk, IfOk}
use Rattle.air_field.specs.Term.{Leaf, Term, leaf_term}
use Rattle.air_core.specs.declared.errors.AirError.{AirError}
use Rattle.air_builder.specs.declared.builders.filtered.FilteredAirBuilder.{FilteredAirBuilder}
use Rattle.air_builder.specs.Assertion.{Assertion, filter_by}
use Rattle.air_builder.specs.Builders.{MeansIn, BuilderView}

-- a filter keeps its reference and condition, and the builder inside is kept
pub record KeptInside {S E N : Type 0} (kept : S → S → Type 0) (n m : N) (x y : E) (a b : S) : Type 0 where
  pub same_reference : m ≡ n
  pub same_condition : y ≡ x
  pub inside : kept a b

-- the builder inside grew by the list with each element put under the condition
pub record GrewUnder {S E F A N : Type 0} (under : Term F → A → A) (kept : S → S → Type 0) (grew : S → S → List A → Type 0)
    (means : S → E → Term F → Type 0) (n m : N) (x y : E) (a b : S) (xs : List A) : Type 0 where
  pub keeps : KeptInside kept n m x y a b
  pub by : (c : Term F) → means a x c → grew a b (map (under c) xs)

-- the builder inside may refuse the condition times each term
abbrev pub RefusesUnder : {S E F X : Type 0} → (S → X → List (Assertion F) → Type 0) → (S → E → Term F → Type 0) → E → S → X
    → List (Assertion F) → Type 0
RefusesUnder {F = F} refuses means x a e ts = (c : Term F) → means a x c → refuses a e (map (filter_by c) ts)

-- the builder inside, by its view, grew by the condition times each term
abbrev pub GrewInside : {S R E F N : Type 0} → BuilderView S R E F → N → N → E → E → S → S → List (Assertion F) → Type 0
GrewInside view n m x y a b ts = GrewUnder filter_by view.kept view.grew (MeansIn view) n m x y a b ts

-- the builder inside, by its view, may refuse the condition times each term
abbrev pub RefusesInside : {S R E F : Type 0} → BuilderView S R E F → E → S → AirError → List (Assertion F) → Type 0
RefusesInside view x a e ts = RefusesUnder view.refuses (MeansIn view) x a e ts

-- the factor of each assertion of a filter
abbrev pub condition_of : {S F E V P Q W M R : Type 0} → FilteredAirBuilder S F E V P Q W M R → E
condition_of f = f.condition

-- The answer of a call that filters by a selector: always a filter on the lent builder, which grew by nothing, and the
-- condition means the selector's leaf.
pub record FiltersBy {S R E F V P Q W M : Type 0} (view : BuilderView S R E F) (l : Leaf) (a : S) (name : ℕ)
    (result : Result (FilteredAirBuilder S F E V P Q W M R) AirError) : Type 0 where
  pub always : IsOk result
  pub same_reference : IfOk result (λ f. f.inner.ghost_name ≡ name)
  pub inner : IfOk result (λ f. view.grew a f.inner.now [])
  pub condition : IfOk result (λ f. MeansIn view f.inner.now f.condition (leaf_term l))

-- a filter's view, from the view of the builder inside
abbrev pub filter_view : {S R E F N P : Type 0} → BuilderView S R E F → (P → S) → (P → N) → (P → E) → (P → S → P)
    → BuilderView P R E F
filter_view view inner name condition with_inner = record {
  valid = view.valid;
  has = view.has;
  means = view.means;
  extends = view.extends;
  ring_refuses = view.ring_refuses;
  ring_of = λ p. view.ring_of (inner p);
  with_ring = λ p r. with_inner p (view.with_ring (inner p) r);
  reads_as = λ p. view.reads_as (inner p);
  ready = λ p. view.ready (inner p) × view.has (view.ring_of (inner p)) (condition p);
  kept = λ p q. KeptInside view.kept (name p) (name q) (condition p) (condition q) (inner p) (inner q);
  grew = λ p q ts. GrewInside view (name p) (name q) (condition p) (condition q) (inner p) (inner q) ts;
  missing = λ p l. view.missing (inner p) l;
  refuses = λ p e ts. RefusesInside view (condition p) (inner p) e ts;
}
