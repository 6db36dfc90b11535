-- The lines that are printed.
use Rattle.std.specs.Prelude.{◌≡◌, ℕ, List, [], ◌∷◌, ◌++◌, length, map, codes, decimal, ◌==◌, if◌then◌else◌, Option, IfSome}
use Rattle.std.specs.List.{AllZip}
use Rattle.air_print.specs.Labels.{HasNoLineEnd}
use Rattle.air_print.specs.Lines.{lines_text}
use Rattle.air_report.specs.FailureTexts.{seen_failure, label_suffix}
use Rattle.air_audit.specs.declared.audit.Audit.{Audit}

-- what an audit found: the three counts, and the row, the constraint and the label's bytes of each failure
pub record Found : Type 0 where
  pub degree : ℕ
  pub rows : ℕ
  pub constraints : ℕ
  pub failures : List (ℕ × ℕ × Option (List ℕ))

abbrev pub found_in : {F : Type 0} → Audit F → Found
found_in a = record {
  degree = a.degree;
  rows = a.report.total_rows;
  constraints = a.report.total_constraints_per_row;
  failures = map seen_failure a.report.failures.items;
}

-- the row and the constraint of a failure
abbrev pub place_of : ℕ × ℕ × Option (List ℕ) → ℕ × ℕ
place_of f = (f.0, f.1)

-- `row r: #k`
unfoldable pub place_text : ℕ × ℕ → List ℕ
place_text p = codes "row " ++ (decimal p.0 ++ (codes ": #" ++ decimal p.1))

-- the place of the failure, followed by the shown text of its label: any text without a line end if the label's text is unspecified
pub record IsFailureLine (f : ℕ × ℕ × Option (List ℕ)) (line : List ℕ) : Type 0 where
  pub shown : List ℕ
  pub line_is : line ≡ place_text (place_of f) ++ shown
  pub shown_is : IfSome (label_suffix f.2) (λ suffix. shown ≡ suffix)
  pub one_line : HasNoLineEnd shown

-- the three counts
unfoldable pub count_lines : Found → List (List ℕ)
count_lines f = (codes "degree " ++ decimal f.degree) ∷ (codes "rows " ++ decimal f.rows) ∷ (codes "constraints " ++ decimal f.constraints) ∷ []

-- the three counts, followed by a line for each failure
pub record IsFindingsText (f : Found) (text : List ℕ) : Type 0 where
  pub lines : List (List ℕ)
  pub each : AllZip IsFailureLine f.failures lines
  pub text_is : text ≡ lines_text (count_lines f ++ lines)

-- `new` is `old` followed by a line for the failure
pub record PushesLine (f : ℕ × ℕ × Option (List ℕ)) (old new : List ℕ) : Type 0 where
  pub line : List ℕ
  pub is_line : IsFailureLine f line
  pub pushed : new ≡ old ++ lines_text (line ∷ [])

-- 0 without failures, otherwise 1
abbrev pub findings_status : Found → ℕ
findings_status f = if length f.failures == 0 then 0 else 1

-- the status and the text that tell what an audit found
abbrev pub TellsFound : {F : Type 0} → Audit F → ℕ → List ℕ → Type 0
TellsFound audit status text = (status ≡ findings_status (found_in audit)) × IsFindingsText (found_in audit) text
