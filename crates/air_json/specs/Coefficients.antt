-- Lists of field elements, each given by its canonical number.
use Rattle.std.specs.Prelude.{ℕ, Bool, List, [], ◌∷◌, map, length, Option, Some, Result, Ok, Err, option_map, option_and_then, if◌then◌else◌, nat_lt, ◌==◌, ok_or}
use Rattle.std.specs.List.{list_all}
use Rattle.serde_json.specs.Data.{Data, Items, no_items, item}
use Rattle.serde_json.specs.Find.{as_array}
use Rattle.air_field.specs.Modular.{Modular}
use Rattle.air_json.specs.Parts.{as_whole_number}
use Rattle.air_json.specs.Results.{◌>>=◌}
use Rattle.air_json.specs.Spelling.{number_data}
use Rattle.air_json.specs.declared.errors.FlatError.{FlatError}
use Rattle.air_json.specs.declared.errors.FlatError.TheVariants as faults

-- the canonical numbers of the elements
abbrev pub number_items : {F : Type 0} {p : ℕ} → Modular F p → List F → Items
number_items m [] = no_items
number_items m (c ∷ cs) = item (number_data (m.value c)) (number_items m cs)

-- ---- reading

-- the whole numbers of a list, if each item is one
unfoldable pub wholes : Items → Option (List ℕ)
wholes no_items = Some []
wholes (item d ds) = option_and_then (λ n. option_map (λ ns. n ∷ ns) (wholes ds)) (as_whole_number d)

-- below the modulus p
abbrev pub is_canonical : ℕ → ℕ → Bool
is_canonical p n = nat_lt n p

abbrev pub if_count : ℕ → ℕ → List ℕ → Result (List ℕ) FlatError
if_count count place ns = if length ns == count then Ok ns else Err (faults.Shape place)

abbrev pub if_canonical : {F : Type 0} {p : ℕ} → Modular F p → ℕ → List ℕ → Result (List F) FlatError
if_canonical {p = p} m place ns = if list_all (is_canonical p) ns then Ok (map m.class ns) else Err (faults.NotCanonical place)

-- a list of `count` elements
unfoldable pub elements_at : {F : Type 0} {p : ℕ} → Modular F p → ℕ → ℕ → Data → Result (List F) FlatError
elements_at m count place d = do
  ds ← ok_or (as_array d) (faults.Shape place)
  ns ← ok_or (wholes ds) (faults.Shape place)
  all ← if_count count place ns
  if_canonical m place all
