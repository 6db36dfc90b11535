-- A property of the first elements of a list.
use Rattle.std.specs.Prelude.{ℕ, ◌<◌, List, HoldsAt}

-- P k holds of the element at k, for each k below n
abbrev pub EachOfFirst : {X : Type 0} → (ℕ → X → Type 0) → List X → ℕ → Type 0
EachOfFirst P xs n = (k : ℕ) → k < n → HoldsAt (P k) xs k
