-- Growth of a builder that records.
use Rattle.std.specs.List.{AllZip}
use Rattle.std.specs.Prelude.{◌≡◌, ℕ, ◌≤◌, ◌^◌, List, [], ◌∷◌, ◌++◌, map}
use Rattle.air_field.specs.Term.{Leaf, first_row, last_row, transition, Term, leaf_term}
use Rattle.air_field.specs.Degree.{degree_by}
use Rattle.air_field.specs.Assignment.{Shape}
use Rattle.air_builder.specs.Assertion.{Assertion}
use Rattle.air_recording.specs.Kinds.{kind_of, base_terms, ext_terms}
use Rattle.air_recording.specs.declared.symbolic.kind.ConstraintKind.{ConstraintKind}
use Rattle.air_recording.specs.declared.symbolic.kind.ConstraintKind.TheVariants as kind

-- a recording builder's other data, beside its pool and its lists: the selectors' expressions, and its shape
pub record Fixed (E : Type 0) : Type 0 where
  pub on_first_row : E
  pub on_last_row : E
  pub on_transition : E
  pub shape : Shape

-- the recorded expressions of each kind, and the kind of each constraint
pub record Lists (E X : Type 0) : Type 0 where
  pub base : List E
  pub ext : List X
  pub kinds : List ConstraintKind

-- one more base expression, and one more extension expression
abbrev pub with_base : {E X : Type 0} → Lists E X → E → Lists E X
with_base l x = record { base = l.base ++ x ∷ []; ext = l.ext; kinds = l.kinds ++ kind.Base ∷ [] }

abbrev pub with_ext : {E X : Type 0} → Lists E X → X → Lists E X
with_ext l x = record { base = l.base; ext = l.ext ++ x ∷ []; kinds = l.kinds ++ kind.Extension ∷ [] }

-- the selectors' expressions mean their leaves
pub record SelectorsMean {E F : Type 0} (means : E → Term F → Type 0) (on_first_row on_last_row on_transition : E) : Type 0 where
  pub first : means on_first_row (leaf_term first_row)
  pub last : means on_last_row (leaf_term last_row)
  pub step : means on_transition (leaf_term transition)

-- the pool is as its calls left it, and the selectors' expressions mean their leaves
pub record IsReady {E F : Type 0} (valid : Type 0) (means : E → Term F → Type 0) (s : Fixed E) : Type 0 where
  pub pool : valid
  pub selectors : SelectorsMean means s.on_first_row s.on_last_row s.on_transition

-- the pool is extended, and the rest stays
pub record KeptRecording {Q E : Type 0} (extends : Q → Q → Type 0) (p q : Q) (s u : Fixed E) : Type 0 where
  pub pool : extends p q
  pub fixed : u ≡ s

-- Each assertion added one expression of its kind, in order, which means its term, and one kind.
pub record GrewRecording {Q E X F : Type 0} (base_means : Q → E → Term F → Type 0)
    (ext_means : Q → X → Term F → Type 0) (extends : Q → Q → Type 0) (p q : Q) (s u : Fixed E) (a b : Lists E X)
    (ts : List (Assertion F)) : Type 0 where
  pub keeps : KeptRecording extends p q s u
  pub more_base : List E
  pub more_ext : List X
  pub base : b.base ≡ a.base ++ more_base
  pub ext : b.ext ≡ a.ext ++ more_ext
  pub kinds : b.kinds ≡ a.kinds ++ map kind_of ts
  pub each_base : AllZip (base_means q) more_base (base_terms ts)
  pub each_ext : AllZip (ext_means q) more_ext (ext_terms ts)

-- the term has a degree past `usize` by these weights
abbrev pub OverflowsDegree : {F : Type 0} → (Leaf → ℕ) → Term F → Type 0
OverflowsDegree w t = 2 ^ 64 ≤ degree_by w t
