-- Spelling and reading lists of whole numbers.
use Rattle.std.specs.Prelude.{◌≡◌, ℕ, ◌≤◌, ◌⊎◌, List, [], ◌∷◌, length, map, Option, Some, option_and_then}
use Rattle.serde_json.specs.Data.{Data, array, Items}
use Rattle.serde_json.specs.Find.{get, as_array}
use Rattle.serde_json.specs.View.{items_of}
use Rattle.air_json.specs.Spelling.{number_data}
use Rattle.air_json.specs.Coefficients.{wholes}

abbrev pub whole_items : List ℕ → Items
whole_items ns = items_of (map number_data ns)

abbrev pub wholes_data : List ℕ → Data
wholes_data ns = array (whole_items ns)

-- the field of this name is the list of these whole numbers
abbrev pub HasWholes : List ℕ → List ℕ → Data → Type 0
HasWholes name ns d = get name d ≡ Some (wholes_data ns)

-- one of the numbers is not below the modulus p
abbrev pub SomePast : ℕ → List ℕ → Type 0
SomePast p [] = ⊥
SomePast p (n ∷ ns) = (p ≤ n) ⊎ SomePast p ns

-- the value is a list of `count` whole numbers, one of which is not below the modulus
abbrev pub HasPast : ℕ → ℕ → Data → Type 0
HasPast p count d = (ns : List ℕ) × (d ≡ wholes_data ns) × (length ns ≡ count) × SomePast p ns

-- ---- reading

-- the list of whole numbers that is a field of an object; other fields are ignored
unfoldable pub wholes_at : List ℕ → Data → Option (List ℕ)
wholes_at name d = option_and_then (λ e. option_and_then wholes (as_array e)) (get name d)
