-- An object of one member, by the entries of its map.
use Rattle.std.proofs.Common.{◌≡◌, ℕ, List, [], ◌∷◌, length, Option, Some, None, String, Global, string_bytes, refl, ap, arith}
use Rattle.std.specs.List.{slice_get}
use Rattle.serde_json.specs.Data.{Data}
use Rattle.serde_json.specs.View.{view, members_view}
use Rattle.serde_json.specs.declared.value.Value.{Value}
use Rattle.air_json.specs.Parts.{only_of}

abbrev pub Entry : Type 0
Entry = String Global × Value

pub only_of-other : (es : List Entry) → (length es ≡ 1 → ⊥) → only_of (members_view es) ≡ None
only_of-other [] h = refl
only_of-other (e ∷ []) h = absurd (h refl)
only_of-other (e ∷ f ∷ es) h = refl

pub only_of-first : (es : List Entry) (k : String Global) (v : Value) → length es ≡ 1 → slice_get es 0 ≡ Some (k, v) → only_of (members_view es) ≡ Some (string_bytes k, view v)
only_of-first [] k v h e = absurd cc
only_of-first (f ∷ []) k v h e = ap (λ (o : Option Entry). elim o as (λ _. Option (List ℕ × Data)) [ Some p ↦ Some (string_bytes p.0, view p.1) | None ↦ None ]) e
only_of-first (f ∷ g ∷ es) k v h e = absurd (omega arith)
