-- Fields that are lists of whole numbers, as a reader answers them.
use Rattle.std.proofs.Common.{◌≡◌, ◌≢◌, ℕ, List, Option, Some, Ok, Err, sym, ap, ◌∙◌}
use Rattle.std.specs.Option.{ok_or}
use Rattle.serde_json.specs.Data.{Data}
use Rattle.air_json.specs.laws.Lists.{fails_is}
use Rattle.air_json.specs.laws.Readings.{ok_or_found}
use Rattle.air_json.specs.Results.{Fails}
use Rattle.air_json.specs.WholeNumbers.{HasWholes, wholes_at}
use Rattle.air_json.specs.laws.WholeNumbers.{wholes_found, wholes_read}
use Rattle.air_json.specs.declared.errors.FlatError.{FlatError}
use Rattle.air_json.specs.declared.errors.FlatError.TheVariants as faults

not_missing : (o : Option (List ℕ)) (ns : List ℕ) (f e : FlatError) → o ≡ Some ns → ok_or o f ≡ Err e → ⊥
not_missing o ns f e h k =
    let both : Ok ns ≡ Err e = sym (ap (λ p. ok_or p f) h) ∙ k in
    absurd cc

pub no_list : (name : List ℕ) (d : Data) (ns : List ℕ) (f e : FlatError) → e ≢ faults.Memory → Fails e (ok_or (wholes_at name d) f) → HasWholes name ns d → ⊥
no_list name d ns f e ne h k = not_missing (wholes_at name d) ns f e (wholes_read name d ns k) (fails_is e _ h ne)

pub list_is : (name : List ℕ) (d : Data) (ns : List ℕ) (f : FlatError) → ok_or (wholes_at name d) f ≡ Ok ns → HasWholes name ns d
list_is name d ns f h = wholes_found name d ns (ok_or_found (wholes_at name d) f ns h)
