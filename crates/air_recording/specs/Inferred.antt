-- The inferred degree, and its errors.
use Rattle.std.specs.Prelude.{Result, Ok, Err, ◌≡◌, ◌⊎◌, ℕ, ◌≤◌, ◌^◌, max, List, [], ◌∷◌, ◌++◌, Vec, length, map, ⊤}
use Rattle.air_field.specs.Ring.{CommRing, AlgebraOver, self_algebra}
use Rattle.air_field.specs.Extension.{Basis}
use Rattle.air_field.specs.Term.{Term}
use Rattle.air_field.specs.declared.errors.RingError.{RingError}
use Rattle.air_field.specs.declared.errors.RingError.TheVariants.{Memory, DegreeOverflow}
use Rattle.air_builder.specs.Declaration.{Declaration}
use Rattle.air_core.specs.declared.errors.AirError.{AirError}
use Rattle.air_core.specs.declared.errors.AirError.TheVariants as air
use Rattle.air_symbolic.specs.BaseLeaves.{base_reads}
use Rattle.air_symbolic.specs.ExtLeaves.{ext_reads}
use Rattle.air_recording.specs.Bounds.{domain_degree, leaf_degree, polynomial_bound, PolynomialsWithin, IsDegreeFor}
use Rattle.air_recording.specs.Kinds.{base_terms, ext_terms}
use Rattle.air_recording.specs.declared.layouts.air_layout.AirLayout.{AirLayout}
use Rattle.air_recording.specs.Recorded.{EachRecords, RecordRefuses, RecordingAnswers, terms_of}
use Rattle.air_recording.specs.Recordings.{Recording}

-- the lengths of periodic columns
abbrev pub periods_of : {T A : Type 0} → List (Vec T A) → List ℕ
periods_of columns = map (λ c. length c.items) columns

-- the greatest of these numbers; 0 for the empty list
abbrev pub greatest_in : List ℕ → ℕ
greatest_in [] = 0
greatest_in (n ∷ ns) = max n (greatest_in ns)

-- all recorded terms: the base terms, and then the extension terms
abbrev pub recorded_terms : {F E : Type 0} → Basis F E → Recording F E → List (Term F)
recorded_terms basis recorded =
    terms_of base_reads recorded.pool.base recorded.base ++ terms_of (ext_reads basis) recorded.pool recorded.ext

-- The degree inferred for n rows, in a domain of weight w, from terms that record an AIR's declaration: base terms over the
-- base field and over the extension, extension terms over the extension. For two rows or more it bounds the degrees of their
-- polynomials if the leaves' polynomials are within their bounds.
pub record IsInferred {F E : Type 0} (r : CommRing F) (over : AlgebraOver F E) (w n : ℕ) (d : Declaration F) (degree : ℕ) : Type 0 where
  pub base : List (Term F)
  pub ext : List (Term F)
  pub base_recorded : EachRecords (self_algebra r) base (base_terms d.constraints)
  pub base_in_extension : EachRecords over base (base_terms d.constraints)
  pub ext_recorded : EachRecords over ext (ext_terms d.constraints)
  pub is_degree : IsDegreeFor w n (periods_of d.periodic) (base ++ ext) degree
  pub base_bounded : 2 ≤ n → PolynomialsWithin (self_algebra r)
      (leaf_degree w n (periods_of d.periodic)) (polynomial_bound w degree n) base
  pub bounded : 2 ≤ n → PolynomialsWithin over (leaf_degree w n (periods_of d.periodic)) (polynomial_bound w degree n) (base ++ ext)

-- the answer is the degree for n rows of these terms, in a domain of weight w; an error is `DegreeOverflow`, if this
-- degree exceeds `usize`, or `Memory`
abbrev pub AnswersInferred : {F : Type 0} → ℕ → ℕ → List ℕ → List (Term F) → Result ℕ RingError → Type 0
AnswersInferred w n periods us (Ok d) = IsDegreeFor w n periods us d
AnswersInferred w n periods us (Err Memory) = ⊤
AnswersInferred w n periods us (Err DegreeOverflow) = 2 ^ 64 ≤ domain_degree w n periods us

-- the degree for n rows of some terms that record the declared ones, in a domain of weight w, exceeds `usize`
pub record IsDegreeOver {F E : Type 0} (r : CommRing F) (over : AlgebraOver F E) (w n : ℕ) (d : Declaration F) : Type 0 where
  pub base : List (Term F)
  pub ext : List (Term F)
  pub base_recorded : EachRecords (self_algebra r) base (base_terms d.constraints)
  pub ext_recorded : EachRecords over ext (ext_terms d.constraints)
  pub past : 2 ^ 64 ≤ domain_degree w n (periods_of d.periodic) (base ++ ext)

-- The errors of the recording and, if the recording answers, `DegreeOverflow` for a degree past `usize`.
abbrev pub DegreeRefuses : {F E : Type 0} → CommRing F → AlgebraOver F E → ℕ → ℕ → AirLayout → Declaration F → AirError → Type 0
DegreeRefuses r over w n layout d e =
    RecordRefuses layout d e ⊎ (RecordingAnswers r over layout d × ((e ≡ air.DegreeOverflow) × IsDegreeOver r over w n d))
