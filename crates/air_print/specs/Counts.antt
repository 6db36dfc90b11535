-- Counts of uses, which stop at two.
use Rattle.std.specs.Prelude.{slice_get, ◌≡◌, ℕ, zero, suc, ◌<◌, Bool, true, false, ◌&&◌, List, length, slice_index_or, Option, None, Some}
use Rattle.air_symbolic.specs.declared.pools.expr.SymbolicExpr.{SymbolicExpr}
use Rattle.air_print.specs.Names.{is_reached, has_operation}
use Rattle.air_print.specs.declared.counts.Places.{Places}
use Rattle.air_print.specs.declared.counts.Places.TheVariants.{Nowhere, Once, More}

-- marks of n expressions: each mark is its own index
pub record AreMarks (n : ℕ) (marks : List (Option ℕ)) : Type 0 where
  pub places : length marks ≡ n
  pub own : (i j : ℕ) → slice_index_or marks i None ≡ Some j → j ≡ i

-- the count that represents n uses
abbrev pub places_for : ℕ → Places
places_for zero = Nowhere
places_for (suc zero) = Once
places_for (suc (suc n)) = More

-- expression i is used f i times
pub record AreCounted (f : ℕ → ℕ) (counts : List Places) : Type 0 where
  pub each : (i : ℕ) → i < length counts → slice_index_or counts i Nowhere ≡ places_for (f i)

abbrev pub is_more : Places → Bool
is_more Nowhere = false
is_more Once = false
is_more More = true

-- the expression is reached, is not a leaf, and was counted more than once
abbrev pub passes : {A : Type 0} → List (SymbolicExpr A) → List (Option ℕ) → List Places → ℕ → Bool
passes ns marks counts i = is_reached marks i && (has_operation (slice_get ns i) && is_more (slice_index_or counts i Nowhere))
