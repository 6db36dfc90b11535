-- What is written is what is read.
use Rattle.std.proofs.Common.{◌≡◌, ℕ, Ok, Err, sym, ◌∙◌, inl, inr}
use Rattle.serde_json.specs.Data.{Data}
use Rattle.air_core.specs.Errors.{matrix_air_error}
use Rattle.air_core.specs.declared.errors.AirError.{AirError}
use Rattle.air_field.specs.Modular.{Modular}
use Rattle.air_field.specs.declared.errors.MatrixError.{MatrixError}
use Rattle.air_json.specs.laws.Readings.{not_done}
use Rattle.air_object.specs.Input.{SpellsInput, HasInputFault}
use Rattle.air_object.specs.Members.{Made, members}
use Rattle.air_object.specs.Seen.{seen_input}
use Rattle.air_object.specs.declared.input.FlatInput.{FlatInput}
use Rattle.air_object.specs.laws.Members.{members_agree}
use Rattle.air_object.proofs.InputLaws.{one_value}

module _ {F : Type 0} {order : ℕ} (modular : Modular F order) where
  pub input_back : (d : Data) (made : Made F) (input : FlatInput F) → (members modular).spells d made → SpellsInput modular d input → made ≡ Ok (seen_input input)
  input_back d made input h s = one_value modular d made (Ok (seen_input input)) h s.members

  pub fault_back : (d : Data) (made : Made F) (e : AirError) → (members modular).spells d made → HasInputFault modular d e → (f : MatrixError) × (made ≡ Err f) × (e ≡ matrix_air_error f)
  fault_back d made e s (inl h) = absurd (not_done (λ _. ⊥) h.0 made (sym ((members_agree modular).refused d h.0 h.1) ∙ (members_agree modular).again d made s))
  fault_back d made e s (inr h) = (h.0, one_value modular d made (Err h.0) s h.1, h.2)
