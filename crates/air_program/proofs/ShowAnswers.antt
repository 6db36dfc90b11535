-- The answer of `show` to the members `constraints` and `labels`.
use Rattle.std.proofs.Common.{◌≡◌, ◌≢◌, ◌⊎◌, ℕ, List, map, Result, Ok, Err, string_bytes, refl, ap, subst, ◌∙◌, inl, inr}
use Rattle.serde_json.specs.Data.{Data}
use Rattle.serde_json.specs.View.{view}
use Rattle.air_field.specs.Modular.{Modular}
use Rattle.air_json.specs.Faults.{air_fault}
use Rattle.air_json.specs.Results.{Gives}
use Rattle.air_json.specs.laws.Lists.{fails_is}
use Rattle.air_json.specs.declared.errors.FlatError.{FlatError}
use Rattle.air_json.specs.declared.errors.FlatError.TheVariants as faults
use Rattle.air_print.specs.Lines.{ShowsRoots}
use Rattle.air_object.specs.Members.{labelled_constraints}
use Rattle.air_object.specs.Parts.{TakesPool, given_by}
use Rattle.air_object.specs.Readers.{labelled_with, labelled_read}
use Rattle.air_object.specs.Seen.{seen_labelled}
use Rattle.air_object.specs.laws.Members.{labelled_agree}
use Rattle.air_object.specs.declared.labelled.Labelled.{Labelled}
use Rattle.air_object.specs.declared.parts.Parts.{Parts}
use Rattle.air_object.proofs.PartLemmas.{gives_ok, gives_err, labelled_give, roots_given}
use Rattle.air_core.specs.declared.errors.AirError.{AirError}
use Rattle.air_core.specs.declared.errors.AirError.TheVariants as air
use Rattle.air_program.specs.ByField.{StandsFor, HasParts, AnswersParts}
use Rattle.air_program.specs.Reasons.{labelled_refusal}
use Rattle.air_program.specs.Refusals.{air_name, AnswersReason, GivesAnswer}
use Rattle.air_program.specs.Shown.{ShowsValue, ShownIn}
use Rattle.air_program.specs.declared.refusals.Refusal.{Refusal}
use Rattle.air_program.specs.declared.texts.Answer.{Answer}
use Rattle.air_program.proofs.NamedAnswers.{gives_so}

module _ {F : Type 0} {p : ℕ} (m : Modular F p) (parts : Parts F) (r : Result (Labelled F) FlatError) (given : Gives seen_labelled r (labelled_with (given_by parts.constraints) (view parts.rest))) where
  read_of : (d : Data) → HasParts m parts d → Gives seen_labelled r (labelled_read m d)
  read_of d has = labelled_give m d (view parts.rest) parts.main parts.constraints has seen_labelled r given

  -- the roots have the trees and the labels that the members spell, and the text shows them
  pub shows_given : (l : Labelled F) → r ≡ Ok l → TakesPool parts.constraints l → (text : List ℕ)
      → ShowsRoots m l.pool l.roots.items (map string_bytes l.labels.items) text
      → (d : Data) → HasParts m parts d → ShowsValue m d text
  shows_given l is taken text shows d has = record {
    pool = l.pool;
    roots = l.roots.items;
    are = roots_given m d (view parts.rest) parts.main parts.constraints has l taken;
    labels = map string_bytes l.labels.items;
    spelt = (labelled_agree m).found d (seen_labelled l) (gives_ok seen_labelled r l (labelled_read m d) is (read_of d has));
    shows = shows;
  }

  first : (f : FlatError) → r ≡ Err f → f ≢ faults.Memory → (d : Data) → HasParts m parts d → (labelled_constraints m).fault d f
  first f is n d has = (labelled_agree m).fault d f (fails_is f (labelled_read m d) (gives_err seen_labelled r f (labelled_read m d) is (read_of d has)) n)

  -- the fault is the first one of the members, or `Memory`
  pub refused_given : (bytes : List ℕ) (f : FlatError) (e : AirError) → r ≡ Err f → e ≡ air_fault f → (a : Result Answer Refusal)
      → GivesAnswer (λ status text. (e ≢ air.Memory) × ((d : Data) → StandsFor bytes d → AnswersReason (air_name e) (labelled_refusal m d e) status text)) a
      → GivesAnswer (AnswersParts ShownIn m bytes parts) a
  refused_given bytes f e is same a given = gives_so a given (λ status text h d stands has.
      inr (f, first f is (λ z. h.0 (same ∙ ap air_fault z)) d has, subst (λ g. AnswersReason (air_name g) (labelled_refusal m d g) status text) same (h.1 d stands)))
