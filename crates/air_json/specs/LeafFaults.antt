-- The first fault of a value that spells no leaf.
use Rattle.std.specs.Prelude.{◌≡◌, ℕ, ◌⊎◌}
use Rattle.serde_json.specs.Data.{Data}
use Rattle.air_json.specs.declared.errors.FlatError.{FlatError}
use Rattle.air_json.specs.declared.errors.FlatError.TheVariants as faults

-- A value that spells no leaf, in the node at a place, has its own fault if it has one, else the fault `Shape`.
abbrev pub OwnFaultOr : {S : Type 0} → (Data → S → Type 0) → (ℕ → Data → FlatError → Type 0)
    → ℕ → Data → FlatError → Type 0
OwnFaultOr {S} spells own place d f =
    own place d f
    ⊎ (((a : S) → spells d a → ⊥) × ((g : FlatError) → own place d g → g ≡ faults.Shape place)
    × (f ≡ faults.Shape place))
