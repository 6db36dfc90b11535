-- The text that a run over streams writes, and its status.
use Rattle.std.specs.Prelude.{◌≡◌, ◌⊎◌, ℕ, List, codes, Bool, true, false, Option, Some, None}
use Rattle.std.specs.Io.KnownBytes.{Consumes, IsAtEnd}
use Rattle.air_program.specs.Refusals.{AnswersRefusal}
use Rattle.air_program.specs.declared.commands.Request.{Request}

-- Below, `answers` relates an input to a status and a text, for each request.

-- The answer to all bytes that the reader had, if the reader specifies them.
abbrev pub IsAnswer : (List ℕ → ℕ → List ℕ → Type 0) → Option (List ℕ) → Option (List ℕ) → ℕ → List ℕ → Type 0
IsAnswer answers before after status text = (input : List ℕ) × Consumes before after input × IsAtEnd after × answers input status text

-- `Read` exactly if the reader failed. `Memory` may replace every other answer.
abbrev pub IsOutcomeOfReading : (List ℕ → ℕ → List ℕ → Type 0) → Bool → Option (List ℕ) → Option (List ℕ) → ℕ → List ℕ → Type 0
IsOutcomeOfReading answers true before after status text = AnswersRefusal (codes "Read") status text
IsOutcomeOfReading answers false before after status text = AnswersRefusal (codes "Memory") status text ⊎ IsAnswer answers before after status text

-- The words are checked first: if they aren't a request, nothing is read.
abbrev pub IsOutcome : (Request → List ℕ → ℕ → List ℕ → Type 0) → Option Request → Bool → Option (List ℕ) → Option (List ℕ) → ℕ → List ℕ → Type 0
IsOutcome answers None failed before after status text = AnswersRefusal (codes "Usage") status text × (failed ≡ false) × (after ≡ before)
IsOutcome answers (Some request) failed before after status text = IsOutcomeOfReading (answers request) failed before after status text
