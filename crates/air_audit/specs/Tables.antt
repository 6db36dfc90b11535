-- Expressions by the numbers of a pool.
use Rattle.std.specs.Prelude.{◌≡◌, ◌<◌, ℕ, List, length, slice_get, slice_index_or, Option, Some, Result, Vec}
use Rattle.std.specs.Global.{Global}
use Rattle.air_field.specs.Term.{Leaf, Term}
use Rattle.air_core.specs.declared.errors.AirError.{AirError}
use Rattle.air_builder.specs.Assertion.{Assertion, Base, Extension}
use Rattle.air_builder.specs.Batches.{AssertsOf, OrMemory}
use Rattle.air_builder.specs.Builders.{BuilderView, MeansIn}
use Rattle.air_author.specs.Expressions.{IsUsable, Makes, MakesTerm}
use Rattle.air_audit.specs.Plans.{number_at}
use Rattle.air_audit.specs.declared.flat.root.Root.{Root}
use Rattle.air_audit.specs.declared.flat.root.Root.TheVariants as root

-- in the builder the term has this expression
abbrev pub IsMade : {S E F : Type 0} → (S → E → Term F → Type 0) → (S → Leaf → Type 0) → S → Term F → E → Type 0
IsMade means missing b t x = IsUsable means missing x t b

-- in a builder as its laws see it
abbrev pub IsMadeIn : {S R E F : Type 0} → BuilderView S R E F → S → Term F → E → Type 0
IsMadeIn view = IsMade (MeansIn view) view.missing

-- there is an expression, and it has the property
abbrev pub SomeHas : {E : Type 0} → (E → Type 0) → Option E → Type 0
SomeHas {E} P o = (x : E) × (o ≡ Some x) × P x

-- the table has an expression at place p, and it has the property
abbrev pub HasAt : {E : Type 0} → (E → Type 0) → List E → ℕ → Type 0
HasAt P table p = SomeHas P (slice_get table p)

-- the assertion is that what the expression at place p means is zero
abbrev pub AssertsAt : {S E F : Type 0} → (S → E → Term F → Type 0) → List E → S → ℕ → Assertion F → Type 0
AssertsAt means table a p s = HasAt (λ x. AssertsOf Base means (λ t. t) a x s) table p

-- the table has an expression at the place of number i, by the list of places, and it has the property
abbrev pub HasNumber : {E : Type 0} → (E → Type 0) → List ℕ → List E → ℕ → Type 0
HasNumber P places table i = (i < length places) × HasAt P table (slice_index_or places i 0)

-- the table of a root's kind has the expression of the root's number, with the property of such numbers
abbrev pub RootHas : {E X F EF : Type 0} → (ℕ → E → Type 0) → (ℕ → X → Type 0) → List ℕ → List ℕ → List E → List X → Root F EF → Type 0
RootHas P Q base_places places base table (root.Base i) = HasNumber (P i) base_places base i
RootHas P Q base_places places base table (root.Extension i) = HasNumber (Q i) places table i

-- the assertion is that what the expression of a root means is zero, in the field or over the extension
abbrev pub AssertsRoot : {S E X F EF : Type 0} → (S → E → Term F → Type 0) → (S → X → Term F → Type 0) → List ℕ → List ℕ → List E → List X
    → S → Root F EF → Assertion F → Type 0
AssertsRoot means means_over base_places places base table a (root.Base i) s = HasAt (λ x. AssertsOf Base means (λ t. t) a x s) base (slice_index_or base_places i 0)
AssertsRoot means means_over base_places places base table a (root.Extension i) s = HasAt (λ x. AssertsOf Extension means_over (λ t. t) a x s) table (slice_index_or places i 0)

-- the table has at each place before k the expression of the place's number
abbrev pub TableMade : {E F : Type 0} → (Term F → E → Type 0) → (ℕ → Term F) → List ℕ → List E → ℕ → Type 0
TableMade is_made term numbers table k = (p : ℕ) → p < k → HasAt (is_made (term (number_at numbers p))) table p

-- a list of expressions was made, of each term in order
abbrev pub MakesAll : {S E F X : Type 0} → (S → E → Term F → Type 0) → (S → S → List (Assertion F) → Type 0)
    → (S → Leaf → Type 0) → (S → X → List (Assertion F) → Type 0) → S → S → Result (Vec E Global) X → List (Term F) → Type 0
MakesAll means grew missing refuses a b r ts = Makes (λ xs. xs.items) means grew missing refuses a b r ts

-- in a builder as its laws see it, or out of memory: several expressions; one expression
abbrev pub MakesAllOrMemory : {S R E F : Type 0} → BuilderView S R E F → S → S → Result (Vec E Global) AirError → List (Term F) → Type 0
MakesAllOrMemory view a b r ts = MakesAll (MeansIn view) view.grew view.missing (OrMemory view.refuses) a b r ts

abbrev pub MakesOrMemory : {S R E F : Type 0} → BuilderView S R E F → S → S → Result E AirError → Term F → Type 0
MakesOrMemory view a b r t = MakesTerm (MeansIn view) view.grew view.missing (OrMemory view.refuses) a b r t
