-- Refusals as outcomes.
use Rattle.std.proofs.Common.{◌≡◌, ◌⊎◌, ℕ, List, Bool, false, Option, Some, Result, Ok, Err, IfOk, OnOk, inl, inr, refl, sym, subst, ap}
use Rattle.std.specs.Io.KnownBytes.{Consumes, IsAtEnd}
use Rattle.air_program.specs.Outcome.{IsOutcome, IsOutcomeOfReading}
use Rattle.air_program.specs.Refusals.{name_of, refusal_text}
use Rattle.air_program.specs.declared.commands.Request.{Request}
use Rattle.air_program.specs.declared.refusals.Refusal.{Refusal}
use Rattle.air_program.specs.declared.refusals.Refusal.TheVariants as refusals

-- a refusal that is written completely has the status 2
pub refusal_written : {E : Type 0} (r : Result ℕ E) (A : List ℕ → Type 0) (O : ℕ → List ℕ → Type 0) (text : List ℕ) → IfOk r (λ s. s ≡ 2) → OnOk r (A text) → O 2 text → IfOk r (λ s. (t : List ℕ) × A t × O s t)
refusal_written (Ok s) A O text two written o = (text, written, subst (λ n. O n text) (sym two) o)
refusal_written (Err _) A O text two written o = tt

module _ (answers : Request → List ℕ → ℕ → List ℕ → Type 0) (before after : Option (List ℕ)) (input : List ℕ) where
  read_refused : (request : Request) (why : Refusal) → Consumes before after input → IsAtEnd after → (why ≡ refusals.Memory) ⊎ answers request input 2 (refusal_text (name_of why)) → IsOutcomeOfReading (answers request) false before after 2 (refusal_text (name_of why))
  read_refused request why consumed end (inl memory) = inl (refl, ap (λ w. refusal_text (name_of w)) memory)
  read_refused request why consumed end (inr answer) = inr (input, consumed, end, answer)

  -- the outcome is the answer to the whole input, or `Memory`
  pub refused_outcome : (request : Request) (asked : Option Request) (failed : Bool) (why : Refusal) → Some request ≡ asked → failed ≡ false → Consumes before after input → IsAtEnd after → (why ≡ refusals.Memory) ⊎ answers request input 2 (refusal_text (name_of why)) → IsOutcome answers asked failed before after 2 (refusal_text (name_of why))
  refused_outcome request asked failed why is well consumed end refused =
      subst (λ o. IsOutcome answers o failed before after 2 (refusal_text (name_of why))) is
      (subst (λ b. IsOutcomeOfReading (answers request) b before after 2 (refusal_text (name_of why))) (sym well) (read_refused request why consumed end refused))
