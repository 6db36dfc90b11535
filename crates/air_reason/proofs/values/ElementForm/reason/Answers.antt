use Rattle.std.proofs.Common.{◌≡◌, ℕ, false, List, Option, Some, None, String, Global, string_bytes, if◌then◌else◌, sym, ap, subst, ◌∙◌}
use Rattle.std.specs.Prelude.{option_map, nat_lt}
use Rattle.serde_json.specs.Data.{Data}
use Rattle.serde_json.specs.View.{view}
use Rattle.air_core.specs.declared.errors.AirError.TheVariants as air
use Rattle.air_json.specs.Parts.{as_whole_number}
use Rattle.air_reason.specs.Members.{element, element_or, past_text}
use Rattle.air_reason.specs.Reasons.{Reason, Tells}
use Rattle.air_reason.proofs.values.ElementForm.reason.Goals as goal

-- a number that isn't below the modulus
past_told : (p n : ℕ) (d : Data) (text : String Global) → as_whole_number d ≡ Some n → nat_lt n p ≡ false → string_bytes text ≡ past_text p n → Tells (element p d) (Some text)
past_told p n d text is past said =
    ap (λ t. Some t) said
    ∙ sym (ap (λ o. option_map (λ (q : Reason). q.text) (element_or p o)) is ∙ ap (λ b. option_map (λ (q : Reason). q.text) (if b then None else Some (record { error = air.NotCanonical 0; text = past_text p n }))) past)

pub returns : goal.returns
returns g c =
    let order : ℕ = c.ORDER_U64-modulus.result in
    subst (λ (p : ℕ). Tells (element p (view c.args.value.now)) (Some c.in_ok-text.text)) c.ORDER_U64-modulus.ensures
    (past_told order c.in-Some.number (view c.args.value.now) c.in_ok-text.text (sym c.in-Some.ensures) (sym c.is_below.ensures ∙ c.if-is_below.false) c.in_ok-text.ensures.ok)
