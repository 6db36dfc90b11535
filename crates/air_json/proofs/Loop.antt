-- Steps of a loop that reads items one after another.
use Rattle.std.proofs.Common.{◌≡◌, ℕ, ◌+◌, ◌<◌, List, length, get_or, drop, drop-cons, add-one, Result, refl, sym, ap, ◌∙◌}
use Rattle.serde_json.specs.Data.{item}
use Rattle.serde_json.specs.View.{view, items_view}
use Rattle.serde_json.specs.declared.value.Value.{Value}
use Rattle.air_json.specs.declared.errors.FlatError.{FlatError}
use Rattle.air_json.specs.declared.errors.FlatError.TheVariants as faults
use Rattle.air_json.specs.Results.{◌>>=◌, Fails}

pub items_at : (xs : List Value) (i : ℕ) (x : Value) → i < length xs → x ≡ get_or xs i x → items_view (drop i xs) ≡ item (view x) (items_view (drop (i + 1) xs))
items_at xs i x lt is = ap items_view (drop-cons xs i x lt) ∙ rw (← is, add-one) refl

pub carry : {A B : Type 0} (f : FlatError) (r : Result A FlatError) (g : A → Result B FlatError) (total : Result B FlatError) → (r >>= g) ≡ total → Fails f r → Fails f total
carry faults.Memory r g total e h = tt
carry {A} f r g total e h = sym e ∙ ap (λ (q : Result A FlatError). q >>= g) h
