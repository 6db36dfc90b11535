-- Ascending runs of keys with their numbers.
use Rattle.std.specs.Prelude.{◌≡◌, ℕ, ◌<◌, List, Some}
use Rattle.std.specs.declared.cmp.Ordering.{Ordering}
use Rattle.std.specs.declared.cmp.Ordering.TheVariants.{Less}
use Rattle.std.specs.List.{slice_get}

module _ {K : Type 0} (cmp : K → K → Ordering) where
  -- each key is below all later ones
  abbrev pub IsAscending : List (K × ℕ) → Type 0
  IsAscending run = (i j : ℕ) (d e : K × ℕ) → i < j → slice_get run i ≡ Some d → slice_get run j ≡ Some e
      → cmp d.0 e.0 ≡ Less

  -- every key of the run is below this one
  abbrev pub IsBelow : List (K × ℕ) → K → Type 0
  IsBelow run key = (i : ℕ) (d : K × ℕ) → slice_get run i ≡ Some d → cmp d.0 key ≡ Less
