-- The answer to bytes, over the field that their value names, step by step.
use Rattle.std.proofs.Common.{◌≡◌, ◌⊎◌, ℕ, List, Option, Some, None, Result, Ok, Err, IfOk, IfErr, string_bytes, codes, refl, sym, ap, subst, ◌∙◌, inl, inr}
use Rattle.serde_json.specs.Data.{Data}
use Rattle.serde_json.specs.View.{view}
use Rattle.air_field.specs.Modular.{Modular}
use Rattle.air_program.specs.ByField.{StandsFor, HasParts, RefusesText, AnswersParts, AnswersValue, AnswersOver, AnswersNamed, AnswersBytes}
use Rattle.air_object.specs.Fields.{named_by, field_of, OverField}
use Rattle.air_program.specs.Reasons.{field_reason, Refuses}
use Rattle.air_program.specs.Refusals.{name_of, refusal_text, GivesAnswer}
use Rattle.air_program.specs.declared.commands.Wanted.{Wanted}
use Rattle.air_object.specs.declared.field_name.FieldName.{FieldName}
use Rattle.air_object.specs.declared.parts.Parts.{Parts}
use Rattle.air_program.specs.declared.refusals.Refusal.{Refusal}
use Rattle.air_program.specs.declared.texts.Answer.{Answer}
use Rattle.air_program.specs.declared.refusals.Refusal.TheVariants as refusals

-- a fact about an answer makes it one, if the call fails only with `Memory`
pub gives : {A : ℕ → List ℕ → Type 0} (P : Answer → Type 0) (r : Result Answer Refusal) → ((a : Answer) → P a → A a.status (string_bytes a.text)) → IfOk r P → IfErr r (λ why. why ≡ refusals.Memory) → GivesAnswer A r
gives P (Ok a) h p memory = record { ok = h a p; refused = tt }
gives P (Err why) h p memory = record { ok = tt; refused = inl memory }

or_so : {M A B : Type 0} → M ⊎ A → (A → B) → M ⊎ B
or_so (inl memory) h = inl memory
or_so (inr a) h = inr (h a)

-- one answer implies another
pub gives_so : {A B : ℕ → List ℕ → Type 0} (r : Result Answer Refusal) → GivesAnswer A r → ((status : ℕ) (text : List ℕ) → A status text → B status text) → GivesAnswer B r
gives_so (Ok a) given h = record { ok = h a.status (string_bytes a.text) given.ok; refused = tt }
gives_so (Err why) given h = record { ok = tt; refused = or_so given.refused (h 2 (refusal_text (name_of why))) }

-- bytes are the text of at most one value
pub one_value : (bytes : List ℕ) (d e : Data) → StandsFor bytes d → StandsFor bytes e → d ≡ e
one_value bytes d e h k = cc (sym h.1 ∙ k.1)

-- the other members suffice to read the field
same_field : {F : Type 0} {p : ℕ} (m : Modular F p) (parts : Parts F) (d : Data) → HasParts m parts d → field_of d ≡ field_of (view parts.rest)
unfolding field_of
same_field m parts d has = ap named_by (has.others (codes "field") (λ e. absurd cc) (λ e. absurd cc))

-- Below, `parts` were read from a value whose text the bytes are.

module _ (wanted : Wanted) (answers : (F : Type 0) (p : ℕ) → Modular F p → Data → ℕ → List ℕ → Type 0) (bytes : List ℕ) where
  -- a refusal of bytes without a value is an answer to them
  pub text_refused : (value_answers : Data → ℕ → List ℕ → Type 0) (r : Result Answer Refusal) → GivesAnswer (RefusesText wanted bytes) r → GivesAnswer (AnswersValue wanted value_answers bytes) r
  text_refused value_answers r given = gives_so r given (λ status text h. inl h)

  module _ {F : Type 0} {p : ℕ} (m : Modular F p) (parts : Parts F) (read : (d : Data) × StandsFor bytes d × HasParts m parts d) where
    -- an answer to every value with these parts is an answer to the bytes' value
    pub value_answered : (r : Result Answer Refusal) → GivesAnswer (AnswersParts answers m bytes parts) r → GivesAnswer (AnswersValue wanted (answers F p m) bytes) r
    value_answered r given = gives_so r given (λ status text h. inr (read.0, read.1, h read.0 read.1 read.2))

    field_is : (o : Option FieldName) (e : Data) → StandsFor bytes e → o ≡ field_of (view parts.rest) → o ≡ field_of e
    field_is o e stands is = is ∙ sym (ap field_of (one_value bytes e read.0 stands read.1) ∙ same_field m parts read.0 read.2)

    named : (field : FieldName) → Some field ≡ field_of (view parts.rest) → (status : ℕ) (text : List ℕ) → AnswersOver wanted answers field bytes status text → AnswersBytes wanted answers bytes status text
    named field is status text (inl none) = inl none
    named field is status text (inr h) = inr (h.0, h.1, subst (λ o. AnswersNamed wanted answers o h.0 status text) (field_is (Some field) h.0 h.1 is) h.2)

    -- an answer over the field that the parts name is an answer to the bytes
    pub named_answered : (field : FieldName) (r : Result Answer Refusal) → Some field ≡ field_of (view parts.rest) → GivesAnswer (AnswersOver wanted answers field bytes) r → GivesAnswer (AnswersBytes wanted answers bytes) r
    named_answered field r is given = gives_so r given (named field is)

    -- so is an answer to these parts, if the field is theirs
    pub parts_answered : (field : FieldName) (r : Result Answer Refusal) → ((d : Data) (status : ℕ) (text : List ℕ) → answers F p m d status text → OverField (λ G q n. answers G q n d status text) field)
        → Some field ≡ field_of (view parts.rest) → GivesAnswer (AnswersParts answers m bytes parts) r → GivesAnswer (AnswersBytes wanted answers bytes) r
    parts_answered field r over is given =
        named_answered field r is (gives_so r given (λ status text h. inr (read.0, read.1, over read.0 status text (h read.0 read.1 read.2))))

    -- the parts name no field
    pub none_named : (r : Result Answer Refusal) → None ≡ field_of (view parts.rest) → GivesAnswer (Refuses wanted (codes "Field") field_reason) r → GivesAnswer (AnswersBytes wanted answers bytes) r
    none_named r is given = gives_so r given (λ status text h. inr (read.0, read.1, subst (λ o. AnswersNamed wanted answers o read.0 status text) (field_is None read.0 read.1 is) h))
