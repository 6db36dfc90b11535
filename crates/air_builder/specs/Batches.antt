-- The effect of a call that asserts: growth by the assertions of its elements, in order, or a refusal.
use Rattle.std.specs.List.{AllZip}
use Rattle.std.specs.Prelude.{◌≡◌, ◌⊎◌, ℕ, ◌<◌, List, length, take, Result, OnOk, OnErr, IfErr, ⊤}
use Rattle.air_field.specs.Term.{Leaf, Term}
use Rattle.air_core.specs.declared.errors.AirError.{AirError}
use Rattle.air_core.specs.declared.errors.AirError.TheVariants.{Memory}
use Rattle.air_builder.specs.Assertion.{Assertion}
use Rattle.air_builder.specs.Builders.{BuilderView, MeansIn}
use Rattle.air_builder.specs.Refusals.{NoneMissing}

-- x means a term, and s is the assertion, of the given kind, of an operation on that term
abbrev pub AssertsOf : {S E F : Type 0} → (Term F → Assertion F) → (S → E → Term F → Type 0) → (Term F → Term F) → S → E → Assertion F → Type 0
AssertsOf {F = F} kind means op a x s = (t : Term F) × means a x t × (s ≡ kind (op t))

-- as `AssertsOf`, for an operation on the terms that both elements of a pair mean
abbrev pub AssertsOfBoth : {S E F : Type 0} → (Term F → Assertion F) → (S → E → Term F → Type 0) → (Term F → Term F → Term F) → S → E × E → Assertion F → Type 0
AssertsOfBoth {F = F} kind means op a p s = (t : Term F) × (u : Term F) × means a p.0 t × means a p.1 u × (s ≡ kind (op t u))

-- a fact holds of the list of the assertions that the elements make in the builder, in order
abbrev pub OfEach : {S I F : Type 0} → (S → I → Assertion F → Type 0) → List I → S → (List (Assertion F) → Type 0) → Type 0
OfEach {F = F} asserts xs a fact = (ss : List (Assertion F)) → AllZip (asserts a) xs ss → fact ss

-- a fact holds of a strict prefix of the list
pub record OfBeginning {X : Type 0} (xs : List X) (fact : List X → Type 0) : Type 0 where
  pub count : ℕ
  pub within : count < length xs
  pub beginning : fact (take count xs)

-- a fact holds of the assertions that a strict prefix of the elements make
abbrev pub OfFirst : {S I F : Type 0} → (S → I → Assertion F → Type 0) → List I → S → (List (Assertion F) → Type 0) → Type 0
OfFirst asserts xs a fact = OfBeginning xs (λ ys. OfEach asserts ys a fact)

-- The effect of a call that asserts: the builder is kept. At Ok it grew by all the assertions. At an Err it grew by a strict
-- prefix of them, and growing by all of them may fail with this error. `of_all` and `of_beginning` say what holds of all the
-- assertions, and of a strict prefix.
pub record Asserted {S F X : Type 0} (of_all of_beginning : S → (List (Assertion F) → Type 0) → Type 0) (kept : S → S → Type 0)
    (grew : S → S → List (Assertion F) → Type 0) (refuses : S → X → List (Assertion F) → Type 0)
    (a b : S) (result : Result ⊤ X) : Type 0 where
  pub keeps : kept a b
  pub ok : OnOk result (of_all a (grew a b))
  pub err : OnErr result (of_beginning a (grew a b))
  pub refused : IfErr result (λ e. of_all a (refuses a e))

-- the effect of a call that makes the assertions of each of xs, in order
abbrev pub AssertedEach : {S I F X : Type 0} → (S → I → Assertion F → Type 0) → (S → S → Type 0)
    → (S → S → List (Assertion F) → Type 0) → (S → X → List (Assertion F) → Type 0) → S → S → List I → Result ⊤ X → Type 0
AssertedEach asserts kept grew refuses a b xs result =
    Asserted (OfEach asserts xs) (OfFirst asserts xs) kept grew refuses a b result

-- `AssertedEach` for a builder's view
abbrev pub AssertedEachIn : {S R I E F : Type 0} → BuilderView S R E F → (S → I → Assertion F → Type 0) → S → S → List I
    → Result ⊤ AirError → Type 0
AssertedEachIn view asserts a b xs result = AssertedEach asserts view.kept view.grew view.refuses a b xs result

-- The effect of a call that asserts, for each of xs in order, that the operation on its term is zero, by an assertion of
-- this kind.
abbrev pub Asserts : {S R E F : Type 0} → BuilderView S R E F → (Term F → Assertion F) → (Term F → Term F) → S → S → List E
    → Result ⊤ AirError → Type 0
Asserts view kind op a b xs result = AssertedEachIn view (AssertsOf kind (MeansIn view) op) a b xs result

-- as `Asserts`, for pairs
abbrev pub AssertsBoth : {S R E F : Type 0} → BuilderView S R E F → (Term F → Assertion F) → (Term F → Term F → Term F) → S → S
    → List (E × E) → Result ⊤ AirError → Type 0
AssertsBoth view kind op a b ps result = AssertedEachIn view (AssertsOfBoth kind (MeansIn view) op) a b ps result

-- the effect of a call that asserts a list
abbrev pub AssertedAll : {S F X : Type 0} → (S → S → Type 0) → (S → S → List (Assertion F) → Type 0)
    → (S → X → List (Assertion F) → Type 0) → S → S → Result ⊤ X → List (Assertion F) → Type 0
AssertedAll kept grew refuses a b r ts = Asserted (λ s fact. fact ts) (λ s. OfBeginning ts) kept grew refuses a b r

-- `AssertedAll` for a builder's view
abbrev pub AssertedAllIn : {S R E F : Type 0} → BuilderView S R E F → S → S → Result ⊤ AirError → List (Assertion F) → Type 0
AssertedAllIn view a b r ts = AssertedAll view.kept view.grew view.refuses a b r ts

-- The effect of a call that asserts a list; at Ok, no term of the list names a missing leaf.
pub record AssertedList {S F X : Type 0} (kept : S → S → Type 0) (grew : S → S → List (Assertion F) → Type 0)
    (missing : S → Leaf → Type 0) (refuses : S → X → List (Assertion F) → Type 0) (a b : S)
    (r : Result ⊤ X) (ts : List (Assertion F)) : Type 0 where
  pub asserted : AssertedAll kept grew refuses a b r ts
  pub there : OnOk r (NoneMissing (missing a) ts)

-- `AssertedList` for a builder's view
abbrev pub AssertedIn : {S R E F : Type 0} → BuilderView S R E F → S → S → Result ⊤ AirError → List (Assertion F) → Type 0
AssertedIn view a b r ts = AssertedList view.kept view.grew view.missing view.refuses a b r ts

-- the builder refuses so, or memory ran out
abbrev pub OrMemory : {S F : Type 0} → (S → AirError → List (Assertion F) → Type 0) → S → AirError → List (Assertion F) → Type 0
OrMemory refuses a e ts = (e ≡ Memory) ⊎ refuses a e ts

-- The effect of evaluating an AIR with these constraints: it asserts them, and may fail with the AIR's own `Memory`.
abbrev pub Evaluates : {S R E F : Type 0} → BuilderView S R E F → S → S → Result ⊤ AirError → List (Assertion F) → Type 0
Evaluates view a b r ts = AssertedList view.kept view.grew view.missing (OrMemory view.refuses) a b r ts
