-- Why data are refused: which part of them, and what is wrong there.
use Rattle.std.specs.Prelude.{◌≡◌, ℕ, suc, List, [], ◌++◌, Option, Some, None, option_map, codes, decimal, String, string_bytes}
use Rattle.std.specs.Global.{Global}
use Rattle.serde_json.specs.Data.{Data, Items, no_items, item}
use Rattle.serde_json.specs.Find.{get, as_array}
use Rattle.air_core.specs.declared.errors.AirError.{AirError}
use Rattle.air_core.specs.declared.errors.AirError.TheVariants as air

-- the error, and the text behind the path to the data
pub record Reason : Type 0 where
  pub error : AirError
  pub text : List ℕ

-- the reason why data are refused, if they are
abbrev pub Check : Type 0
Check = Data → Option Reason

-- the data haven't their form
abbrev pub malformed : List ℕ → Option Reason
malformed text = Some (record { error = air.Shape 0; text = text })

-- the reason of a part, which lies at this path in the whole
abbrev pub under : List ℕ → Option Reason → Option Reason
under path r = option_map (λ q. record { error = q.error; text = path ++ q.text }) r

-- the first of two reasons
infixr 35 ◌orElse◌
abbrev pub ◌orElse◌ : Option Reason → Option Reason → Option Reason
None orElse r = r
(Some q) orElse r = Some q

-- ---- lists

abbrev pub place_text : ℕ → List ℕ
place_text i = codes "[" ++ (decimal i ++ codes "]")

-- the first refused item, where the first of these has the index i
unfoldable pub in_items : Check → ℕ → Items → Option Reason
in_items check i no_items = None
in_items check i (item d ds) = under (place_text i) (check d) orElse in_items check (suc i) ds

abbrev pub items_or : Check → Option Items → Option Reason
items_or check None = malformed (codes ": not a list")
items_or check (Some ds) = in_items check 0 ds

abbrev pub in_list : Check → Check
in_list check d = items_or check (as_array d)

-- ---- members of an object

abbrev pub found_or : Option Reason → List ℕ → Check → Option Data → Option Reason
found_or absent name check None = absent
found_or absent name check (Some d) = under name (check d)

-- the member of this name, which is required
abbrev pub needed : List ℕ → Check → Check
needed name check d = found_or (malformed (name ++ codes " is missing")) name check (get name d)

-- the member of this name, if there is one
abbrev pub optional : List ℕ → Check → Check
optional name check d = found_or None name check (get name d)

-- ---- what the code answers

-- these are the texts of the reasons
abbrev pub Tells : Option Reason → Option (String Global) → Type 0
Tells r told = option_map string_bytes told ≡ option_map (λ q. q.text) r
