-- How the debug builder logs an assertion, and its growth by labelled assertions.
use Rattle.std.specs.Prelude.{◌≡◌, ℕ, ◌+◌, ◌^◌, List, [], ◌∷◌, ◌++◌, map, Bool, true, false, not, All, Option, Some, None, option_map, String, string_bytes, ⊤}
use Rattle.std.specs.List.{AllZip, filter}
use Rattle.air_builder.specs.Assertion.{Assertion}
use Rattle.air_builder.specs.Labels.{Label, Unasked, Shown, Labelled, without_labels}
use Rattle.air_core.specs.Texts.{kept_text}
use Rattle.air_core.specs.declared.errors.AirError.{AirError}
use Rattle.air_core.specs.declared.errors.AirError.TheVariants.{Memory, CountOverflow}
use Rattle.air_report.specs.Report.{failure_place}
use Rattle.air_report.specs.Debug.{RowData, GrewAtRow}
use Rattle.air_report.specs.declared.debug.failure.ConstraintFailure.{ConstraintFailure}

-- the label has the bytes of the text, and there is none if the text is empty; an unspecified text allows any label
abbrev pub KeepsText : {A : Type 0} → Option (List ℕ) → Option (String A) → Type 0
KeepsText None kept = ⊤
KeepsText (Some text) kept = option_map string_bytes kept ≡ kept_text text

-- the name was asked for, and the failure keeps the text that it displayed
abbrev pub KeepsLabel : ConstraintFailure → Label → Type 0
KeepsLabel f Unasked = ⊥
KeepsLabel f (Shown text) = KeepsText text f.label

-- the text of an assertion without a name: the empty one, for which no label is kept
abbrev pub IsNameless : Option (List ℕ) → Type 0
IsNameless text = text ≡ Some []

-- a text that an assertion's name may display; without a name, the empty text
abbrev pub MayDisplay : {N : Type 0} → (N → Option (List ℕ) → Type 0) → Option N → Option (List ℕ) → Type 0
MayDisplay displays None = IsNameless
MayDisplay displays (Some name) = displays name

-- one failure was added, at the row and constraint index k, with a text that the name may display
pub record LogsFailure (row k : ℕ) (says : Option (List ℕ) → Type 0) (fs gs : List ConstraintFailure) : Type 0 where
  pub failure : ConstraintFailure
  pub pushed : gs ≡ fs ++ failure ∷ []
  pub at : failure_place failure ≡ (row, k)
  pub text : Option (List ℕ)
  pub said : says text
  pub kept : KeepsText text failure.label

-- an assertion with constraint index k was logged: the counter rose; if it holds, the failures are unchanged, else its
-- failure was added
abbrev pub LogsOne : ℕ → ℕ → ℕ → (Option (List ℕ) → Type 0) → Bool → List ConstraintFailure → List ConstraintFailure → Type 0
LogsOne row k n says true fs gs = (n ≡ k + 1) × (gs ≡ fs)
LogsOne row k n says false fs gs = (n ≡ k + 1) × LogsFailure row k says fs gs

-- `Memory` only if the assertion doesn't hold; `CountOverflow` only if the counter is at its maximum
abbrev pub LogRefuses : ℕ → Bool → AirError → Type 0
LogRefuses k holds Memory = holds ≡ false
LogRefuses k holds CountOverflow = k + 1 ≡ 2 ^ 64
LogRefuses k holds _ = ⊥

-- the labels of the assertions that the test doesn't find zero, in order
abbrev pub failing_labels : {F : Type 0} → (Assertion F → Bool) → List (Labelled F) → List Label
failing_labels zero ls = map (λ l. l.1) (filter (λ l. not (zero l.0)) ls)

-- the labels of the assertions that the test finds zero
abbrev pub passing_labels : {F : Type 0} → (Assertion F → Bool) → List (Labelled F) → List Label
passing_labels zero ls = map (λ l. l.1) (filter (λ l. zero l.0) ls)

-- The builder grew by the assertions; each failure keeps the text that its assertion's name displayed, and no name was asked
-- for if its assertion is zero.
pub record LabelledAtRow {F E : Type 0} (zero : RowData F E → Assertion F → Bool) (d e : RowData F E) (m n : ℕ) (fs gs : List ConstraintFailure) (ls : List (Labelled F)) : Type 0 where
  pub grew : GrewAtRow zero d e m n fs gs (without_labels ls)
  pub more : List ConstraintFailure
  pub failures : gs ≡ fs ++ more
  pub kept : AllZip KeepsLabel more (failing_labels (zero d) ls)
  pub unasked : All (λ l. l ≡ Unasked) (passing_labels (zero d) ls)
