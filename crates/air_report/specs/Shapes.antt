-- Which preprocessed traces and periodic columns fit a trace.
use Rattle.std.specs.Prelude.{◌≡◌, ◌≢◌, ℕ, ◌%◌, ◌<◌, List, length, Option, Some, None, Result, Ok, Err, Vec, HoldsAt, ⊤}
use Rattle.std.specs.Int.{IsPowerOfTwo}
use Rattle.air_field.specs.Grid.{Grid}
use Rattle.air_core.specs.FirstOnes.{EachOfFirst}
use Rattle.air_core.specs.declared.errors.AirError.{AirError}
use Rattle.air_core.specs.declared.errors.AirError.TheVariants.{PreprocessedHeight, PermutationHeight, PeriodNotPowerOfTwo, PeriodDoesNotDivide}

-- the number of rows of the preprocessed trace, if there is one
abbrev pub table_height : {F : Type 0} → Option (Grid F) → Option ℕ
table_height None = None
table_height (Some table) = Some (length table.rows)

-- the first n columns' periods are powers of two that divide the height
abbrev pub PeriodsFitBelow : {T A : Type 0} → List (Vec T A) → ℕ → ℕ → Type 0
PeriodsFitBelow columns height n =
    EachOfFirst (λ k column. IsPowerOfTwo (length column.items) × (height % length column.items ≡ 0)) columns n

abbrev pub FitsHeight : Option ℕ → ℕ → Type 0
FitsHeight None height = ⊤
FitsHeight (Some preprocessed) height = preprocessed ≡ height

-- the preprocessed trace has the trace's height, and each period is a power of two that divides it
pub record ShapesFit {T A : Type 0} (columns : List (Vec T A)) (height : ℕ) (preprocessed : Option ℕ) : Type 0 where
  pub table_fits : FitsHeight preprocessed height
  pub periods_fit : PeriodsFitBelow columns height (length columns)

-- the error names the first shape that doesn't fit: the preprocessed trace's, then each column's
abbrev pub IsShapeFault : {T A : Type 0} → List (Vec T A) → ℕ → Option ℕ → AirError → Type 0
IsShapeFault columns height preprocessed (PreprocessedHeight p m) = (preprocessed ≡ Some p) × (m ≡ height) × (p ≢ height)
IsShapeFault columns height preprocessed (PeriodNotPowerOfTwo i n) = FitsHeight preprocessed height × (i < length columns)
    × PeriodsFitBelow columns height i × HoldsAt (λ column. n ≡ length column.items) columns i × ¬ (IsPowerOfTwo n)
IsShapeFault columns height preprocessed (PeriodDoesNotDivide i n h) = FitsHeight preprocessed height × (i < length columns)
    × PeriodsFitBelow columns height i × HoldsAt (λ column. n ≡ length column.items) columns i × IsPowerOfTwo n × (h ≡ height) × (height % n ≢ 0)
IsShapeFault columns height preprocessed _ = ⊥

-- the shapes fit, or this is the first that doesn't
abbrev pub MatchShapes : {T A : Type 0} → List (Vec T A) → ℕ → Option ℕ → Result ⊤ AirError → Type 0
MatchShapes columns height preprocessed (Ok _) = ShapesFit columns height preprocessed
MatchShapes columns height preprocessed (Err e) = IsShapeFault columns height preprocessed e

-- the error names the heights of the permutation trace and of the trace, which differ
abbrev pub IsHeightFault : ℕ → ℕ → AirError → Type 0
IsHeightFault permutation height (PermutationHeight p m) = (p ≡ permutation) × (m ≡ height) × (permutation ≢ height)
IsHeightFault permutation height _ = ⊥
