-- Lists without repetition, and how many elements have a property.
use Rattle.std.specs.Prelude.{◌≢◌, ℕ, ◌<◌, ◌≤◌, List, length, All, AllPairs}

abbrev pub Distinct : {A : Type 0} → List A → Type 0
Distinct xs = AllPairs (λ x y. x ≢ y) xs

-- At most n elements have the property: a list of distinct elements that have it is no longer.
abbrev pub AtMost : {A : Type 0} → (A → Type 0) → ℕ → Type 0
AtMost {A} P n = (xs : List A) → Distinct xs → All P xs → length xs ≤ n

-- fewer than n elements have the property
abbrev pub FewerThan : {A : Type 0} → (A → Type 0) → ℕ → Type 0
FewerThan {A} P n = (xs : List A) → Distinct xs → All P xs → length xs < n
