-- Values that words spell as JSON.
use Rattle.std.specs.Prelude.{◌≡◌, ℕ, List, ◌++◌, codes, bytes_eq, if◌then◌else◌, false, Option, Some, IfSome}
use Rattle.serde_json.specs.Data.{Data}
use Rattle.serde_json.specs.Read.{read}
use Rattle.serde_json.specs.Written.{has_float, compact_text}

-- the word spells x, by the rule of x's type
abbrev pub IsSpeltBy : {S : Type 0} → (Data → S → Type 0) → List ℕ → S → Type 0
IsSpeltBy spells word x = (d : Data) × (read word ≡ Some d) × spells d x

-- the text of a JSON value; nothing is claimed if it contains a float
abbrev pub IsCompactText : Data → List ℕ → Type 0
IsCompactText d text = has_float d ≡ false → text ≡ compact_text d

-- a value's debug text, followed by its spelling if the word spells it differently
abbrev pub beside_text : List ℕ → List ℕ → List ℕ → List ℕ
beside_text shown written word =
    if bytes_eq written word then shown else (shown ++ (codes ", which is spelt " ++ written))

-- `new` is `old` followed by that text; nothing is claimed where the debug text isn't known
pub record ShowsBeside (shown : Option (List ℕ)) (spelling : Data) (word old new : List ℕ) : Type 0 where
  pub written : List ℕ
  pub is_written : IsCompactText spelling written
  pub added : IfSome shown (λ s. new ≡ old ++ beside_text s written word)
