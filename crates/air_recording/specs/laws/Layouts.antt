-- Indices below a total.
use Rattle.std.proofs.Common.{◌≡◌, ℕ, zero, suc, ◌<◌, true, false, cond, leb, List, [], ◌∷◌, All, Some, None, refl, arith}
use borrow.Author.Tests.{leb-false}
use Rattle.air_recording.specs.Layouts.{first_past}

-- where none is at or past the total, all are below it
pub below-none_past : (total : ℕ) (indices : List ℕ) → None ≡ first_past total indices → All (λ i. i < total) indices
below-none_past total [] h = λ k d b. absurd (omega arith)
below-none_past total (i ∷ indices) h = elim (leb total i) as (λ t. leb total i ≡ t → None ≡ cond t (Some i) (first_past total indices) → All (λ j. j < total) (i ∷ indices)) [
  | true ↦ λ e n. absurd (cc)
  | false ↦ λ e n. both (leb-false total i e) (below-none_past total indices n)
] refl h
  where
    both : i < total → All (λ j. j < total) indices → All (λ j. j < total) (i ∷ indices)
    both here rest zero d b = here
    both here rest (suc k) d b = rest k d (omega arith)
