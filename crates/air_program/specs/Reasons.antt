-- Why an object is refused, as the second line of the answer.
use Rattle.std.specs.Prelude.{◌≡◌, ℕ, List, [], ◌∷◌, ◌++◌, codes, decimal, Option, Some, None}
use Rattle.serde_json.specs.Data.{Data}
use Rattle.air_field.specs.Modular.{Modular}
use Rattle.air_core.specs.declared.errors.AirError.{AirError}
use Rattle.air_print.specs.Lines.{lines_text}
use Rattle.air_reason.specs.Errors.{error_text}
use Rattle.air_reason.specs.Members.{input_reason, labelled_reason}
use Rattle.air_reason.specs.Reasons.{Reason}
use Rattle.air_program.specs.Refusals.{AnswersRefusal, AnswersReason}
use Rattle.air_program.specs.declared.commands.Wanted.{Wanted}
use Rattle.air_program.specs.declared.commands.Wanted.TheVariants.{Audit, Explain, Show}

-- the place at which a text stops being JSON; no clause says which
abbrev pub IsPlaceText : List ℕ → Type 0
IsPlaceText reason = (line : ℕ) × (column : ℕ) × (reason ≡ codes "no JSON at line " ++ (decimal line ++ (codes " column " ++ decimal column)))

-- the member `field` names no field
abbrev pub field_reason : List ℕ
field_reason = codes "\"field\": no such field, one of BabyBear, KoalaBear, Mersenne31, Goldilocks"

-- the reason of an object's first fault or, if it has none, the text of the audit's error
abbrev pub reason_or : Option Reason → AirError → List ℕ
reason_or None e = error_text e
reason_or (Some r) e = r.text

-- why an object over this field, which has this error, is no input or can't be audited
abbrev pub input_refusal : {F : Type 0} {p : ℕ} → Modular F p → Data → AirError → List ℕ
input_refusal m d e = reason_or (input_reason m d) e

-- why its constraints can't be shown
abbrev pub labelled_refusal : {F : Type 0} {p : ℕ} → Modular F p → Data → AirError → List ℕ
labelled_refusal m d e = reason_or (labelled_reason m d) e

-- a text, and one more line
abbrev pub AddsLine : List ℕ → List ℕ → Type 0
AddsLine text more = (line : List ℕ) × (more ≡ text ++ lines_text (line ∷ []))

-- a refusal: one line as the answer to `flat`, and two to the other words
abbrev pub Refuses : Wanted → List ℕ → List ℕ → ℕ → List ℕ → Type 0
Refuses Audit name reason = AnswersRefusal name
Refuses Explain name reason = AnswersReason name reason
Refuses Show name reason = AnswersReason name reason
