-- Refusals, their names and their lines.
use Rattle.std.specs.Prelude.{◌≡◌, ◌⊎◌, ℕ, List, [], ◌∷◌, ◌++◌, codes, Result, IfOk, IfErr, string_bytes}
use Rattle.air_core.specs.declared.errors.AirError.{AirError}
use Rattle.air_core.specs.declared.errors.AirError.TheVariants as air
use Rattle.air_print.specs.Lines.{lines_text}
use Rattle.air_program.specs.declared.refusals.Refusal.{Refusal}
use Rattle.air_program.specs.declared.refusals.Refusal.TheVariants as refusals
use Rattle.air_program.specs.declared.texts.Answer.{Answer}

-- the name of the refusal's variant
abbrev pub air_name : AirError → List ℕ
air_name air.Memory = codes "Memory"
air_name air.DegreeOverflow = codes "DegreeOverflow"
air_name air.CountOverflow = codes "CountOverflow"
air_name (air.MissingEntry a b) = codes "MissingEntry"
air_name (air.RowOffset a) = codes "RowOffset"
air_name (air.MissingExtEntry a b) = codes "MissingExtEntry"
air_name air.NoPermutation = codes "NoPermutation"
air_name (air.LayoutMainWidth a b) = codes "LayoutMainWidth"
air_name (air.LayoutPublicValues a b) = codes "LayoutPublicValues"
air_name (air.LayoutPeriodicColumns a b) = codes "LayoutPeriodicColumns"
air_name air.ForeignExpression = codes "ForeignExpression"
air_name (air.IndexPastTotal a b) = codes "IndexPastTotal"
air_name (air.PreprocessedHeight a b) = codes "PreprocessedHeight"
air_name (air.PermutationHeight a b) = codes "PermutationHeight"
air_name (air.PeriodNotPowerOfTwo a b) = codes "PeriodNotPowerOfTwo"
air_name (air.PeriodDoesNotDivide a b c) = codes "PeriodDoesNotDivide"
air_name (air.Boundary a) = codes "Boundary"
air_name air.EmptyTrace = codes "EmptyTrace"
air_name (air.Ragged a b) = codes "Ragged"
air_name (air.WindowShape a b) = codes "WindowShape"
air_name (air.EmptyPeriodicColumn a) = codes "EmptyPeriodicColumn"
air_name (air.Shape a) = codes "Shape"
air_name air.EmptyList = codes "EmptyList"
air_name (air.Operand a b) = codes "Operand"
air_name (air.WrongDegree a b c) = codes "WrongDegree"
air_name (air.NotCanonical a) = codes "NotCanonical"

abbrev pub name_of : Refusal → List ℕ
name_of refusals.Usage = codes "Usage"
name_of refusals.Read = codes "Read"
name_of refusals.Memory = codes "Memory"
name_of refusals.Syntax = codes "Syntax"
name_of refusals.Json = codes "Json"
name_of refusals.Field = codes "Field"
name_of (refusals.Air e) = air_name e

-- the program's refusal for an error of the library: `Memory` becomes its own
abbrev pub air_refusal : AirError → Refusal
air_refusal air.Memory = refusals.Memory
air_refusal e = refusals.Air e

-- `refused: NAME`
abbrev pub refusal_text : List ℕ → List ℕ
refusal_text name = lines_text ((codes "refused: " ++ name) ∷ [])

-- the status and the text of a refusal
abbrev pub AnswersRefusal : List ℕ → ℕ → List ℕ → Type 0
AnswersRefusal name status text = (status ≡ 2) × (text ≡ refusal_text name)

-- the two lines of a refusal and its reason
abbrev pub reason_text : List ℕ → List ℕ → List ℕ
reason_text name reason = lines_text ((codes "refused: " ++ name) ∷ reason ∷ [])

-- the status and the text of a refusal that has a reason
abbrev pub AnswersReason : List ℕ → List ℕ → ℕ → List ℕ → Type 0
AnswersReason name reason status text = (status ≡ 2) × (text ≡ reason_text name reason)

-- A status and a text are an answer; so is a refusal, unless it is `Memory`.
pub record GivesAnswer (answers : ℕ → List ℕ → Type 0) (given : Result Answer Refusal) : Type 0 where
  pub ok : IfOk given (λ a. answers a.status (string_bytes a.text))
  pub refused : IfErr given (λ why. (why ≡ refusals.Memory) ⊎ answers 2 (refusal_text (name_of why)))
