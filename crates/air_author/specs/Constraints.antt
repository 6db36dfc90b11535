-- The assertions of constraints, and their labels.
use Rattle.std.specs.Prelude.{ℕ, zero, suc, List, [], ◌∷◌, ◌++◌, Option}
use Rattle.air_builder.specs.Assertion.{Assertion}
use Rattle.air_builder.specs.Labels.{Label, Labelled, IsSaid}

-- the assertion was made under a label that the name may display
pub record IsLabelled {S F : Type 0} (labelled : S → S → List (Labelled F) → Type 0)
    (says : Option (List ℕ) → Type 0) (a b : S) (s : Assertion F) : Type 0 where
  pub label : Label
  pub said : IsSaid says label
  pub grown : labelled a b ((s, label) ∷ [])

-- one relation of builders, and then another
abbrev pub Then : {S : Type 0} → (S → S → Type 0) → (S → S → Type 0) → S → S → Type 0
Then {S = S} P Q a c = (b : S) × P a b × Q b c

-- the assertions of each element, in order
abbrev pub asserts_of_each : {C A : Type 0} → (C → List A) → List C → List A
asserts_of_each f [] = []
asserts_of_each f (c ∷ cs) = f c ++ asserts_of_each f cs

-- the assertions at each index below a count, in order
abbrev pub asserts_of_first : {A : Type 0} → (ℕ → List A) → ℕ → List A
asserts_of_first f zero = []
asserts_of_first f (suc n) = asserts_of_first f n ++ f n
