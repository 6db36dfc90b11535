-- The texts of names.
use Rattle.std.specs.Prelude.{◌≡◌, ℕ, List, [], ◌∷◌, ◌++◌, Option, Some, None, decimal}
use Rattle.std.specs.Fmt.{◌++?◌}

-- `::`
abbrev pub colons : List ℕ
colons = 58 ∷ 58 ∷ []

-- `[i]`
abbrev pub element_text : ℕ → List ℕ
element_text i = 91 ∷ (decimal i ++ 93 ∷ [])

-- the text of a name in a namespace
abbrev pub JoinedSays : (Option (List ℕ) → Type 0) → (Option (List ℕ) → Type 0) → Option (List ℕ) → Type 0
JoinedSays left right text = (a b : Option (List ℕ)) × left a × right b × (text ≡ (a ++? Some colons ++? b))

-- the text of element i of a batch under a name
abbrev pub ElementSays : (Option (List ℕ) → Type 0) → ℕ → Option (List ℕ) → Type 0
ElementSays says i = JoinedSays says (λ text. text ≡ Some (element_text i))

-- an empty text is no label
abbrev pub kept_text : List ℕ → Option (List ℕ)
kept_text [] = None
kept_text (b ∷ bytes) = Some (b ∷ bytes)
