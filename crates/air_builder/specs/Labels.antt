-- Growth by assertions that have labels.
use Rattle.std.specs.Prelude.{◌≡◌, ℕ, ◌+◌, ◌<◌, List, [], ◌∷◌, ◌++◌, length, take, map, Option, Result, OnOk, OnErr, ⊤}
use Rattle.std.specs.List.{AllZip, zip}
use Rattle.air_core.specs.declared.errors.AirError.{AirError}
use Rattle.air_field.specs.Term.{Term}
use Rattle.air_builder.specs.Assertion.{Assertion}
use Rattle.air_builder.specs.Batches.{AssertsOf, AssertsOfBoth}
use Rattle.air_builder.specs.Builders.{BuilderView, MeansIn}

-- the label of an assertion: its name was not asked for, or was evaluated and displayed this text
pub data Label : Type 0 where
  Unasked : Label
  Shown : Option (List ℕ) → Label

-- an assertion and its label
abbrev pub Labelled : Type 0 → Type 0
Labelled F = Assertion F × Label

-- a shown label is a text that the name may display
abbrev pub IsSaid : (Option (List ℕ) → Type 0) → Label → Type 0
IsSaid says Unasked = ⊤
IsSaid says (Shown text) = says text

-- as `IsSaid`, for labels in order, where `says i` holds of the texts that the name at index i may display
abbrev pub AreSaidFrom : (ℕ → Option (List ℕ) → Type 0) → ℕ → List Label → Type 0
AreSaidFrom says i [] = ⊤
AreSaidFrom says i (l ∷ ls) = IsSaid (says i) l × AreSaidFrom says (i + 1) ls

-- the assertions without their labels
abbrev pub without_labels : {F : Type 0} → List (Labelled F) → List (Assertion F)
without_labels ls = map (λ l. l.0) ls

-- growth of a builder that discards labels
abbrev pub GrewWithoutLabels : {S F : Type 0} → (S → S → List (Assertion F) → Type 0) → S → S → List (Labelled F) → Type 0
GrewWithoutLabels grew a b ls = grew a b (without_labels ls)

-- the builder grew by each element's assertion, in order, the i-th under a label that the name at i may display
pub record LabelledByEach {S I F : Type 0} (asserts : S → I → Assertion F → Type 0)
    (labelled : S → S → List (Labelled F) → Type 0) (says : ℕ → Option (List ℕ) → Type 0) (a b : S)
    (xs : List I) : Type 0 where
  pub labels : List Label
  pub as_many : length labels ≡ length xs
  pub said : AreSaidFrom says 0 labels
  pub grown : (ss : List (Assertion F)) → AllZip (asserts a) xs ss → labelled a b (zip ss labels)

-- as `LabelledByEach`, for a strict prefix of the elements
pub record LabelledByBeginning {S I F : Type 0} (asserts : S → I → Assertion F → Type 0)
    (labelled : S → S → List (Labelled F) → Type 0) (says : ℕ → Option (List ℕ) → Type 0) (a b : S)
    (xs : List I) : Type 0 where
  pub count : ℕ
  pub within : count < length xs
  pub beginning : LabelledByEach asserts labelled says a b (take count xs)

-- the effect on the labels of a call that asserts each of xs: at Ok all of xs have labels; at an Err those of a strict
-- prefix by which the builder grew
pub record LabelledEach {S I F : Type 0} (asserts : S → I → Assertion F → Type 0)
    (labelled : S → S → List (Labelled F) → Type 0) (says : ℕ → Option (List ℕ) → Type 0) (a b : S)
    (xs : List I) (result : Result ⊤ AirError) : Type 0 where
  pub ok : OnOk result (LabelledByEach asserts labelled says a b xs)
  pub err : OnErr result (LabelledByBeginning asserts labelled says a b xs)

-- the effect on the labels of a call that `Asserts` describes, where `labelled` is the builder's growth under labels
abbrev pub Labels : {S R E F : Type 0} → BuilderView S R E F → (S → S → List (Labelled F) → Type 0) → (Term F → Assertion F)
    → (Term F → Term F) → (ℕ → Option (List ℕ) → Type 0) → S → S → List E → Result ⊤ AirError → Type 0
Labels view labelled kind op says a b xs result = LabelledEach (AssertsOf kind (MeansIn view) op) labelled says a b xs result

-- as `Labels`, for pairs
abbrev pub LabelsBoth : {S R E F : Type 0} → BuilderView S R E F → (S → S → List (Labelled F) → Type 0) → (Term F → Assertion F)
    → (Term F → Term F → Term F) → (ℕ → Option (List ℕ) → Type 0) → S → S → List (E × E) → Result ⊤ AirError → Type 0
LabelsBoth view labelled kind op says a b ps result = LabelledEach (AssertsOfBoth kind (MeansIn view) op) labelled says a b ps result

-- the builder grew by these assertions, the one at place i under a label that the name at i may display
pub record LabelledBy {S F : Type 0} (labelled : S → S → List (Labelled F) → Type 0)
    (says : ℕ → Option (List ℕ) → Type 0) (a b : S) (ts : List (Assertion F)) : Type 0 where
  pub list : List (Labelled F)
  pub asserted : without_labels list ≡ ts
  pub said : AreSaidFrom says 0 (map (λ l. l.1) list)
  pub grown : labelled a b list

-- The laws of every named builder. Growth under labels is growth; growth by nothing leaves the labels.
pub record NamedLaws {S F : Type 0} (grew : S → S → List (Assertion F) → Type 0) (labelled : S → S → List (Labelled F) → Type 0) : Type 0 where
  pub labelled_nothing : (a b : S) → grew a b [] → labelled a b []
  pub labelled_joined : (a b c : S) (xs ys : List (Labelled F)) → labelled a b xs → labelled b c ys → labelled a c (xs ++ ys)
  pub labelled_grew : (a b : S) (xs : List (Labelled F)) → labelled a b xs → grew a b (without_labels xs)
