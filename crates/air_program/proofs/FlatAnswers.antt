-- The answer of `flat` to the input that a JSON value spells, step by step.
use Rattle.std.proofs.Common.{◌≡◌, ◌≢◌, ◌⊎◌, ℕ, List, Vec, String, Global, refl, ap, inl, inr}
use Rattle.serde_json.specs.Data.{Data}
use Rattle.air_field.specs.Modular.{Modular}
use Rattle.air_object.specs.declared.input.FlatInput.{FlatInput}
use Rattle.air_core.specs.declared.errors.AirError.{AirError}
use Rattle.air_core.specs.declared.errors.AirError.TheVariants.{Memory}
use Rattle.air_symbolic.specs.ExtLeaves.{BaseNodes}
use Rattle.air_builder.specs.declared.airs.beside.Beside.{Beside}
use Rattle.air_program.specs.FlatAnswer.{input_of, RefusesValue, AuditedIn}
use Rattle.air_program.specs.Refusals.{name_of, refusal_text, air_refusal}
use Rattle.air_program.specs.declared.refusals.Refusal.{Refusal}
use Rattle.air_program.specs.declared.refusals.Refusal.TheVariants as refusals

-- of all errors of an AIR, only `Memory` is also a refusal of the program itself
memory_or_named : (e : AirError) → (e ≡ Memory) ⊎ ((e ≢ Memory) × (air_refusal e ≡ refusals.Air e))
memory_or_named Memory = inl refl
memory_or_named _ = inr ((λ h. cc), refl)

module _ {F : Type 0} {order : ℕ} (m : Modular F order) where
  -- a refusal answers the value
  abbrev Refuses : Data → Refusal → Type 0
  Refuses d why = AuditedIn F order m d 2 (refusal_text (name_of why))

  named : (d : Data) (e : AirError) → RefusesValue m d e → air_refusal e ≡ refusals.Air e → Refuses d (air_refusal e)
  named d e refuses is = inr (e, refuses, (refl, ap (λ w. refusal_text (name_of w)) is))

  -- every value of these bytes with these parts is answered with the error's own name
  pub parts_refused : (Q P : Data → Type 0) (e : AirError) → (e ≢ Memory → (d : Data) → P d → RefusesValue m d e) → (air_refusal e ≡ refusals.Memory) ⊎ ((d : Data) → Q d → P d → Refuses d (air_refusal e))
  parts_refused Q P e refuses = elim (memory_or_named e) [
    | inl memory ↦ inl (ap air_refusal memory)
    | inr other ↦ inr (λ d q h. named d e (refuses other.0 d h) other.1)
  ]

-- what an input has, and the input's trial, are the input
pub input_made : {F : Type 0} (input : FlatInput F) {pool : BaseNodes F} {roots : Vec ℕ Global} {labels : Vec (String Global) Global} {beside : Beside F}
    → pool ≡ input.constraints.pool → roots ≡ input.constraints.roots → labels ≡ input.constraints.labels → beside ≡ input.beside
    → input_of pool roots labels beside input.trial ≡ input
input_made input is_pool are_roots are_labels is_beside = rw (is_pool, are_roots, are_labels, is_beside) refl
