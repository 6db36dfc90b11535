-- The answers and errors of a recording.
use Rattle.std.specs.List.{AllZip}
use Rattle.std.specs.Prelude.{◌≡◌, ◌⊎◌, ℕ, ◌≤◌, ◌<◌, ◌^◌, List, ◌++◌, map}
use Rattle.air_field.specs.Ring.{CommRing, AlgebraOver, self_algebra}
use Rattle.air_field.specs.Term.{Leaf, Term}
use Rattle.air_field.specs.Value.{value}
use Rattle.air_field.specs.Polynomial.{polynomial}
use Rattle.air_field.specs.Degree.{degree_by, cached_weight, greatest_degree}
use Rattle.air_field.specs.Assignment.{IsMissing}
use Rattle.air_symbolic.specs.Leaves.{Leaves}
use Rattle.air_symbolic.specs.Pools.{IsPool, PoolMeans, term_at, Pool}
use Rattle.air_builder.specs.Assertion.{Assertion}
use Rattle.air_builder.specs.Declaration.{Declaration}
use Rattle.air_core.specs.declared.errors.AirError.{AirError}
use Rattle.air_recording.specs.Kinds.{base_terms, ext_terms}
use Rattle.air_recording.specs.Layouts.{layout_shape, FitsAir, LayoutSuits, LayoutRefuses}
use Rattle.air_recording.specs.declared.layouts.air_layout.AirLayout.{AirLayout}
use Rattle.air_recording.specs.Recording.{OverflowsDegree}
use Rattle.air_builder.specs.Refused.{Refused}

-- u records the declared term t: in an algebra it has the same polynomial (each coefficient) under every assignment of
-- coefficient lists, the same value under every assignment, and no greater degree by any weights
pub record RecordsTerm {F E : Type 0} (a : AlgebraOver F E) (u t : Term F) : Type 0 where
  pub same : (s : Leaf → List E) (n : ℕ) → polynomial a s u n ≡ polynomial a s t n
  pub same_value : (s : Leaf → E) → value a s u ≡ value a s t
  pub degree_le : (w : Leaf → ℕ) → degree_by w u ≤ degree_by w t

-- each of us records its ts, in order
abbrev pub EachRecords : {F E : Type 0} → AlgebraOver F E → List (Term F) → List (Term F) → Type 0
EachRecords a us ts = AllZip (RecordsTerm a) us ts

-- the terms of these numbers in a pool
abbrev pub terms_of : {U A F : Type 0} → (U → Leaves A F) → Pool U A → List ℕ → List (Term F)
terms_of reads pool is = map (λ i. term_at reads pool i) is

-- Each declared base term has one number of the base pool, in order: it means that term, and so has its polynomial,
-- over the base field and over the extension.
pub record RecordsBase {U A F E : Type 0} (r : CommRing F) (over : AlgebraOver F E) (reads : U → Leaves A F) (pool : Pool U A) (numbers : List ℕ) (ts : List (Assertion F)) : Type 0 where
  pub well_formed : IsPool reads pool
  pub means : AllZip (PoolMeans reads r pool) numbers (base_terms ts)
  pub terms : EachRecords (self_algebra r) (terms_of reads pool numbers) (base_terms ts)
  pub in_extension : EachRecords over (terms_of reads pool numbers) (base_terms ts)

-- Each declared extension term has one number of the extension pool, in order: it means that term, and so has its
-- polynomial.
pub record RecordsExt {U A F E : Type 0} (r : CommRing F) (over : AlgebraOver F E) (reads : U → Leaves A F) (pool : Pool U A) (numbers : List ℕ) (ts : List (Assertion F)) : Type 0 where
  pub well_formed : IsPool reads pool
  pub means : AllZip (PoolMeans reads r pool) numbers (ext_terms ts)
  pub terms : EachRecords over (terms_of reads pool numbers) (ext_terms ts)

-- The errors of a recording: the first count of the layout that isn't the AIR's; then `Memory`, a declared term that names a
-- missing entry, or one whose degree exceeds `usize`.
abbrev pub RecordRefuses : {F : Type 0} → AirLayout → Declaration F → AirError → Type 0
RecordRefuses layout d e =
    LayoutRefuses layout d e
    ⊎ (FitsAir layout d
    × Refused (IsMissing (layout_shape layout)) (OverflowsDegree cached_weight) (λ _. ⊥)
    e d.constraints)

-- The recording is Ok: the layout has the AIR's counts and each entry that a declared term names, and some terms that record
-- the declared ones have cached degrees within `usize`.
pub record RecordingAnswers {F E : Type 0} (r : CommRing F) (over : AlgebraOver F E) (layout : AirLayout) (d : Declaration F) : Type 0 where
  pub suits : LayoutSuits layout d
  pub base : List (Term F)
  pub ext : List (Term F)
  pub base_recorded : EachRecords (self_algebra r) base (base_terms d.constraints)
  pub ext_recorded : EachRecords over ext (ext_terms d.constraints)
  pub within : greatest_degree cached_weight (base ++ ext) < 2 ^ 64
