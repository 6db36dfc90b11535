-- Which objects are inputs, and the first fault of an object that isn't one.
use Rattle.std.specs.Prelude.{◌≡◌, ℕ, Option, Some, None, Result, Ok, Err, ◌⊎◌}
use Rattle.serde_json.specs.Data.{Data}
use Rattle.air_field.specs.declared.errors.MatrixError.{MatrixError}
use Rattle.air_field.specs.Modular.{Modular}
use Rattle.air_core.specs.Errors.{matrix_air_error}
use Rattle.air_core.specs.declared.errors.AirError.{AirError}
use Rattle.air_json.specs.Faults.{air_fault}
use Rattle.air_json.specs.declared.errors.FlatError.{FlatError}
use Rattle.air_object.specs.Gained.{AreRootsOf}
use Rattle.air_object.specs.Members.{Made, members}
use Rattle.air_object.specs.Readers.{members_read}
use Rattle.air_object.specs.Seen.{seen_input}
use Rattle.air_object.specs.declared.input.FlatInput.{FlatInput}

-- the members of d are the input's, and its pool and roots are those of d
pub record SpellsInput {F : Type 0} {p : ℕ} (m : Modular F p) (d : Data) (input : FlatInput F) : Type 0 where
  pub members : (members m).spells d (Ok (seen_input input))
  pub roots : AreRootsOf m d input.constraints.pool input.constraints.roots.items

-- the first fault of the members; if there is none, the error of the first trace whose values aren't whole rows
abbrev pub HasInputFault : {F : Type 0} {p : ℕ} → Modular F p → Data → AirError → Type 0
HasInputFault m d e =
    ((f : FlatError) × (members m).fault d f × (e ≡ air_fault f))
    ⊎ ((f : MatrixError) × (members m).spells d (Err f) × (e ≡ matrix_air_error f))

-- the same error as a function of what the members' reader answers
abbrev pub fault_in : {F : Type 0} → Result (Made F) FlatError → Option AirError
fault_in (Err f) = Some (air_fault f)
fault_in (Ok (Err f)) = Some (matrix_air_error f)
fault_in (Ok (Ok values)) = None

-- the first fault of d, if it has one
abbrev pub input_fault : {F : Type 0} {p : ℕ} → Modular F p → Data → Option AirError
input_fault m d = fault_in (members_read m d)
