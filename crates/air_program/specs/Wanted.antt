-- The answer to an object over a field, by the word that was given.
use Rattle.std.specs.Prelude.{ℕ, List}
use Rattle.serde_json.specs.Data.{Data}
use Rattle.air_field.specs.Modular.{Modular}
use Rattle.air_program.specs.Explained.{ExplainedIn}
use Rattle.air_program.specs.FlatAnswer.{AuditedIn}
use Rattle.air_program.specs.Shown.{ShownIn}
use Rattle.air_program.specs.declared.commands.Wanted.{Wanted}
use Rattle.air_program.specs.declared.commands.Wanted.TheVariants.{Audit, Explain, Show}

abbrev pub AnswersIn : Wanted → (F : Type 0) (p : ℕ) → Modular F p → Data → ℕ → List ℕ → Type 0
AnswersIn Audit = AuditedIn
AnswersIn Explain = ExplainedIn
AnswersIn Show = ShownIn
