-- Reading a list of whole numbers answers exactly the list that is spelt.
use Rattle.std.specs.Prelude.{◌≡◌, ℕ, List, [], ◌∷◌, Option, Some, None, option_map, option_and_then, refl}
use Rattle.std.proofs.Common.{ap, ap₂, ◌∙◌}
use Rattle.serde_json.specs.Data.{Data, null, boolean, number, string, array, object, Items, no_items, item}
use Rattle.serde_json.specs.Find.{get, as_array}
use Rattle.air_json.specs.Parts.{as_whole_number}
use Rattle.air_json.specs.laws.Readings.{none_found, by_some, number_found}
use Rattle.air_json.specs.Coefficients.{wholes}
use Rattle.air_json.specs.WholeNumbers.{whole_items, wholes_data, HasWholes, wholes_at}

pub whole_items_again : (ns : List ℕ) → wholes (whole_items ns) ≡ Some ns
unfolding wholes
whole_items_again [] = refl
whole_items_again (n ∷ ns) = ap (option_map (λ ms. n ∷ ms)) (whole_items_again ns)

abbrev pub ItemsAre : Items → List ℕ → Type 0
ItemsAre ds ns = ds ≡ whole_items ns

items_found_of : (d : Data) (ds : Items) (o : Option ℕ) (p : Option (List ℕ)) (ns : List ℕ) → ((ms : List ℕ) → p ≡ Some ms → ds ≡ whole_items ms) → as_whole_number d ≡ o
    → option_and_then (λ n. option_map (λ ms. n ∷ ms) p) o ≡ Some ns → ItemsAre (item d ds) ns
items_found_of d ds None p ns later is e = none_found (ItemsAre (item d ds)) ns e
items_found_of d ds (Some n) None ns later is e = none_found (ItemsAre (item d ds)) ns e
items_found_of d ds (Some n) (Some ms) ns later is e =
    by_some (ItemsAre (item d ds)) (n ∷ ms) ns (ap₂ (λ x xs. item x xs) (number_found d n is) (later ms refl)) e

pub whole_items_found : (ds : Items) (ns : List ℕ) → wholes ds ≡ Some ns → ItemsAre ds ns
unfolding wholes
whole_items_found no_items ns e = by_some (ItemsAre no_items) [] ns refl e
whole_items_found (item d ds) ns e = items_found_of d ds (as_whole_number d) (wholes ds) ns (whole_items_found ds) refl e

abbrev Holds : Option Data → List ℕ → Type 0
Holds o ns = o ≡ Some (wholes_data ns)

list_found : (o : Option Data) (ns : List ℕ) → option_and_then (λ e. option_and_then wholes (as_array e)) o ≡ Some ns → Holds o ns
list_found None ns e = none_found (Holds None) ns e
list_found (Some null) ns e = none_found (Holds (Some null)) ns e
list_found (Some (boolean b)) ns e = none_found (Holds (Some (boolean b))) ns e
list_found (Some (number n)) ns e = none_found (Holds (Some (number n))) ns e
list_found (Some (string s)) ns e = none_found (Holds (Some (string s))) ns e
list_found (Some (array ds)) ns e = ap (λ x. Some (array x)) (whole_items_found ds ns e)
list_found (Some (object ms)) ns e = none_found (Holds (Some (object ms))) ns e

pub wholes_found : (name : List ℕ) (d : Data) (ns : List ℕ) → wholes_at name d ≡ Some ns → HasWholes name ns d
unfolding wholes_at
wholes_found name d ns e = list_found (get name d) ns e

pub wholes_read : (name : List ℕ) (d : Data) (ns : List ℕ) → HasWholes name ns d → wholes_at name d ≡ Some ns
unfolding wholes_at
wholes_read name d ns h = ap (option_and_then (λ e. option_and_then wholes (as_array e))) h ∙ whole_items_again ns
