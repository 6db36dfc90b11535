-- The answer to a request.
use Rattle.std.specs.Prelude.{ℕ, List}
use Rattle.air_program.specs.Answer.{IsAnswerTo}
use Rattle.air_program.specs.ByField.{AnswersBytes}
use Rattle.air_program.specs.Grammar.{parse}
use Rattle.air_program.specs.Wanted.{AnswersIn}
use Rattle.air_program.specs.declared.commands.Request.{Request}
use Rattle.air_program.specs.declared.commands.Request.TheVariants.{Trace, Object}

-- the answer to an input
abbrev pub Answers : Request → List ℕ → ℕ → List ℕ → Type 0
Answers (Trace asked) input = IsAnswerTo asked.cap asked.transition_weight (parse input)
Answers (Object wanted) input = AnswersBytes wanted (AnswersIn wanted) input
