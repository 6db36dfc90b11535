-- The errors of a pool.
use Rattle.std.specs.Prelude.{Result, Ok, Err, ◌≡◌, ℕ, ◌≤◌, ◌<◌, ◌^◌, ⊤}
use Rattle.air_field.specs.Term.{Term}
use Rattle.air_field.specs.Degree.{degree_by, cached_weight}
use Rattle.air_field.specs.declared.errors.RingError.{RingError}
use Rattle.air_field.specs.declared.errors.RingError.TheVariants.{Memory, DegreeOverflow}

-- `Memory` is always allowed, `DegreeOverflow` only for a degree above `usize`.
abbrev pub PoolRefuses : {F : Type 0} → RingError → Term F → Type 0
PoolRefuses Memory t = ⊤
PoolRefuses DegreeOverflow t = 2 ^ 64 ≤ degree_by cached_weight t

-- the answer is the degree d, or `Memory`, or `DegreeOverflow` for a d above `usize`
abbrev pub AnswersDegree : ℕ → Result ℕ RingError → Type 0
AnswersDegree d (Ok n) = n ≡ d
AnswersDegree d (Err Memory) = ⊤
AnswersDegree d (Err DegreeOverflow) = 2 ^ 64 ≤ d

-- the answer is the degree d, if it fits `usize`, and else `DegreeOverflow`
abbrev pub IsChecked : ℕ → Result ℕ RingError → Type 0
IsChecked d (Ok n) = (n ≡ d) × (d < 2 ^ 64)
IsChecked d (Err e) = (e ≡ DegreeOverflow) × (2 ^ 64 ≤ d)
