-- Traces of two columns, and the answers to inputs.
use Rattle.std.proofs.Common.{◌≡◌, ◌⊎◌, ℕ, zero, suc, List, drop, length, Option, Some, None, Err, refl, ap, ◌∙◌, inl, inr}
use Rattle.std.specs.Result.{IsErrOf}
use Rattle.air_field.specs.Grid.{rows_of, grid_of}
use Rattle.air_field.specs.BabyBear.{BabyBear}
use Rattle.air_field.specs.Modulo.{baby_bears}
use Rattle.air_audit.specs.declared.audit.Audit.{Audit}
use Rattle.air_program.specs.Answer.{IsCappedAudit, fibonacci_instance, PassesDegree, IsAnswerTo}
use Rattle.air_core.specs.declared.errors.AirError.{AirError}
use Rattle.air_core.specs.declared.errors.AirError.TheVariants as air
use Rattle.air_program.specs.Grammar.{parse}
use Rattle.air_program.specs.Parsing.{element_values, IsParseRefusal}
use Rattle.air_program.specs.Refusals.{name_of, refusal_text, air_refusal}
use Rattle.air_program.specs.Texts.{TellsFound}
use Rattle.air_program.specs.declared.refusals.Refusal.{Refusal}
use Rattle.air_program.specs.declared.refusals.Refusal.TheVariants as refusals

pub length-rows : {T : Type 0} (h w : ℕ) (xs : List T) → length (rows_of h w xs) ≡ h
length-rows zero w xs = refl
length-rows (suc h) w xs = ap suc (length-rows h w (drop w xs))

-- the parser's refusal is an answer, or it is `Memory`
pub not_parsed : {X : Type 0} (cap : Option ℕ) (w : ℕ) (input : List ℕ) (why : Refusal) → IsParseRefusal why → (IsErrOf {T = X} (Err why) refusals.Syntax → parse input ≡ None)
    → (why ≡ refusals.Memory) ⊎ IsAnswerTo cap w (parse input) 2 (refusal_text (name_of why))
not_parsed cap w input why (inl memory) syntax = inl memory
not_parsed cap w input why (inr is) syntax = inr (rw (syntax (ap Err is), is) (refl, refl))

-- what an audit found is an answer
pub answered : (cap : Option ℕ) (w : ℕ) (input : List ℕ) (public values : List BabyBear) (audit : Audit BabyBear) → parse input ≡ Some (element_values public, element_values values)
    → IsCappedAudit baby_bears (fibonacci_instance (grid_of 2 values) public) cap w audit → (status : ℕ) (text : List ℕ) → TellsFound audit status text → IsAnswerTo cap w (parse input) status text
answered cap w input public values audit e h status text t = rw e (public, values, refl, refl, inl (audit, h, t))

-- `Memory` and `DegreeOverflow` keep their names
pub told_as : {P : Type 0} (e : AirError) (why : Refusal) → why ≡ air_refusal e → (e ≡ air.Memory) ⊎ ((e ≡ air.DegreeOverflow) × P)
    → (why ≡ refusals.Memory) ⊎ ((why ≡ refusals.Air air.DegreeOverflow) × P)
told_as e why is (inl memory) = inl (is ∙ ap air_refusal memory)
told_as e why is (inr past) = inr (is ∙ ap air_refusal past.0, past.1)

-- the refusal of an audit is an answer, or it is `Memory`
pub refused : (cap : Option ℕ) (w : ℕ) (input : List ℕ) (public values : List BabyBear) (why : Refusal) → parse input ≡ Some (element_values public, element_values values)
    → (why ≡ refusals.Memory) ⊎ ((why ≡ refusals.Air air.DegreeOverflow) × PassesDegree (fibonacci_instance (grid_of 2 values) public) cap w) → (why ≡ refusals.Memory) ⊎ IsAnswerTo cap w (parse input) 2 (refusal_text (name_of why))
refused cap w input public values why e (inl memory) = inl memory
refused cap w input public values why e (inr past) = inr (rw (e, past.0) (public, values, refl, refl, inr (past.1, (refl, refl))))
