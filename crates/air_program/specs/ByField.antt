-- From the bytes of a text to its JSON value, and to the answer over the field that the value names.
use Rattle.std.specs.Prelude.{◌≡◌, ◌⊎◌, ℕ, List, codes, Option, Some, None, IsUtf8}
use Rattle.serde_json.specs.Data.{Data}
use Rattle.serde_json.specs.Read.{read}
use Rattle.serde_json.specs.View.{view}
use Rattle.air_field.specs.Modular.{Modular}
use Rattle.air_object.specs.Fields.{field_of, OverField}
use Rattle.air_object.specs.Parts.{ArePartsOf}
use Rattle.air_program.specs.Reasons.{IsPlaceText, field_reason, Refuses}
use Rattle.air_program.specs.declared.commands.Wanted.{Wanted}
use Rattle.air_object.specs.declared.field_name.FieldName.{FieldName}
use Rattle.air_object.specs.declared.parts.Parts.{Parts}

-- the bytes are a text of this JSON value
abbrev pub StandsFor : List ℕ → Data → Type 0
StandsFor bytes d = IsUtf8 bytes × (read bytes ≡ Some d)

-- the bytes are no text of a JSON value
abbrev pub HasNoValue : List ℕ → Type 0
HasNoValue bytes = (d : Data) → StandsFor bytes d → ⊥

-- the bytes have no value: `Json`, and the place as its reason
abbrev pub RefusesText : Wanted → List ℕ → ℕ → List ℕ → Type 0
RefusesText wanted bytes status text =
    HasNoValue bytes × ((reason : List ℕ) × IsPlaceText reason × Refuses wanted (codes "Json") reason status text)

-- `Json` if the bytes have no value, otherwise the answer to their value
abbrev pub AnswersValue : Wanted → (Data → ℕ → List ℕ → Type 0) → List ℕ → ℕ → List ℕ → Type 0
AnswersValue wanted answers bytes status text =
    RefusesText wanted bytes status text ⊎ ((d : Data) × StandsFor bytes d × answers d status text)

-- the value has these parts
abbrev pub HasParts : {F : Type 0} {p : ℕ} → Modular F p → Parts F → Data → Type 0
HasParts m parts d = ArePartsOf m d (view parts.rest) parts.main parts.constraints

-- Below, `answers` relates a value to a status and a text, over each field.

-- the answer to every value with these parts whose text the bytes are
abbrev pub AnswersParts : ((F : Type 0) (p : ℕ) → Modular F p → Data → ℕ → List ℕ → Type 0) → {F : Type 0} {p : ℕ} → Modular F p → List ℕ → Parts F → ℕ → List ℕ → Type 0
AnswersParts answers m bytes parts status text = (d : Data) → StandsFor bytes d → HasParts m parts d → answers _ _ m d status text

-- the answer to a value over the field of this name
abbrev pub AnswersOver : Wanted → ((F : Type 0) (p : ℕ) → Modular F p → Data → ℕ → List ℕ → Type 0) → FieldName → List ℕ → ℕ → List ℕ → Type 0
AnswersOver wanted answers field = AnswersValue wanted (λ d status text. OverField (λ F p m. answers F p m d status text) field)

-- the answer over the named field, or `Field` if none is named
abbrev pub AnswersNamed : Wanted → ((F : Type 0) (p : ℕ) → Modular F p → Data → ℕ → List ℕ → Type 0) → Option FieldName → Data → ℕ → List ℕ → Type 0
AnswersNamed wanted answers None d status text = Refuses wanted (codes "Field") field_reason status text
AnswersNamed wanted answers (Some field) d status text = OverField (λ F p m. answers F p m d status text) field

-- the answer to the bytes of a text
abbrev pub AnswersBytes : Wanted → ((F : Type 0) (p : ℕ) → Modular F p → Data → ℕ → List ℕ → Type 0) → List ℕ → ℕ → List ℕ → Type 0
AnswersBytes wanted answers = AnswersValue wanted (λ d. AnswersNamed wanted answers (field_of d) d)
