-- Refusals with their reasons.
use Rattle.std.proofs.Common.{◌≡◌, ◌≢◌, ℕ, List, Option, Some, None, Result, ap, ◌∙◌, inl, inr}
use Rattle.serde_json.specs.Data.{Data}
use Rattle.air_field.specs.Modular.{Modular}
use Rattle.air_core.specs.declared.errors.AirError.{AirError}
use Rattle.air_core.specs.declared.errors.AirError.TheVariants.{Memory}
use Rattle.air_object.specs.declared.parts.Parts.{Parts}
use Rattle.air_reason.specs.Reasons.{Reason}
use Rattle.air_program.specs.ByField.{StandsFor, HasParts, AnswersParts}
use Rattle.air_program.specs.Explained.{ExplainedIn}
use Rattle.air_program.specs.FlatAnswer.{RefusesValue}
use Rattle.air_program.specs.Reasons.{reason_or, input_refusal}
use Rattle.air_program.specs.Refusals.{air_name, reason_text, AnswersReason, GivesAnswer}
use Rattle.air_program.specs.declared.refusals.Refusal.{Refusal}
use Rattle.air_program.specs.declared.texts.Answer.{Answer}
use Rattle.air_program.proofs.NamedAnswers.{one_value, gives_so}

-- a reason of the value that was read is one of the value that the bytes are a text of
pub reason_given : (bytes : List ℕ) (v : Data) (reasons : Data → Option Reason) (e : AirError) (status : ℕ) (reason text : List ℕ) → StandsFor bytes v → reason ≡ reason_or (reasons v) e
    → AnswersReason (air_name e) reason status text → (d : Data) → StandsFor bytes d → AnswersReason (air_name e) (reason_or (reasons d) e) status text
reason_given bytes v reasons e status reason text stands is answer d other =
    (answer.0, answer.1 ∙ ap (λ r. reason_text (air_name e) r) (is ∙ ap (λ w. reason_or (reasons w) e) (one_value bytes v d stands other)))

-- an error of reading or auditing the parts' value answers the value
pub input_refused : {F : Type 0} {p : ℕ} (m : Modular F p) (parts : Parts F) (bytes : List ℕ) (e : AirError) → (e ≢ Memory → (d : Data) → HasParts m parts d → RefusesValue m d e) → (a : Result Answer Refusal)
    → GivesAnswer (λ status text. (e ≢ Memory) × ((d : Data) → StandsFor bytes d → AnswersReason (air_name e) (input_refusal m d e) status text)) a → GivesAnswer (AnswersParts ExplainedIn m bytes parts) a
input_refused m parts bytes e refuses a given = gives_so a given (λ status text h d stands has. inr (e, refuses h.0 d has, h.1 d stands))
