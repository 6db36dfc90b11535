-- How labels are shown.
use Rattle.std.specs.Prelude.{◌≡◌, ◌≢◌, ℕ, All, List, [], ◌∷◌, Option, Some, IfSome, slice_get, unwrap_or}
use Rattle.std.specs.Fmt.{◌++?◌, debug_str}

-- no byte 10
abbrev pub HasNoLineEnd : List ℕ → Type 0
HasNoLineEnd text = All (λ byte. byte ≢ 10) text

-- A space and the label's debug text. `debug_str` quotes ASCII texts, and leaves other texts unspecified.
abbrev pub quoted_label : List ℕ → Option (List ℕ)
quoted_label label = Some (32 ∷ []) ++? debug_str label

-- the shown text of a label: the quoted label if that is specified, otherwise any text without a line end
pub record ShowsLabel (label shown : List ℕ) : Type 0 where
  pub shown_is : IfSome (quoted_label label) (λ quoted. shown ≡ quoted)
  pub one_line : HasNoLineEnd shown

-- the shown text after an index: nothing if the label is empty
abbrev pub StandsBehind : List ℕ → List ℕ → Type 0
StandsBehind [] shown = shown ≡ []
StandsBehind (byte ∷ bytes) shown = ShowsLabel (byte ∷ bytes) shown

-- the text at an index, empty past the end
abbrev pub text_at : List (List ℕ) → ℕ → List ℕ
text_at texts place = unwrap_or (slice_get texts place) []
