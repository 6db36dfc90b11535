-- What the calls that claim something of each of many expressions write into the notes. Where these have a fault afterwards, an entry may be
-- missing.
use Rattle.std.specs.Prelude.{◌≡◌, ℕ, List, ◌++◌, map, length, Option, None, Some, IfSome, IsSomeAnd, slice_get, String, string_bytes, zip}
use Rattle.std.specs.List.{AllZip, enumerate_from, range_with_len}
use Rattle.std.specs.Global.{Global}
use Rattle.air_core.specs.Texts.{element_text}
use Rattle.air_draft.specs.DraftEntries.{text_under}
use Rattle.air_draft.specs.declared.claim.Claim.{Claim}
use Rattle.air_draft.specs.declared.claim.Claimed.{Claimed}
use Rattle.p3_air.specs.HandleView.{known}
use Rattle.p3_air.specs.declared.expressions.nodes.Body.{Body}
use Rattle.p3_air.specs.declared.handles.constraints.Constraints.{Constraints}

-- x has a step, of this number
abbrev pub IsNumber : Option Body → ℕ → Type 0
IsNumber x n = IsSomeAnd (known x) (λ k. n ≡ k.at.index)

abbrev pub AreNumbers : List (Option Body) → List ℕ → Type 0
AreNumbers xs ns = AllZip IsNumber xs ns

-- the label of this number, where there is an outer one
abbrev pub label_under : Option ℕ → ℕ → Option ℕ
label_under None number = None
label_under (Some outer) number = Some number

-- a claim of each under the condition; under an outer label, they have the labels from this number on
abbrev pub claims_from : Option ℕ → Option ℕ → ℕ → List Claimed → List Claim
claims_from condition outer first list = map (λ p. record { claimed = p.1; condition = condition; label = label_under outer p.0 }) (enumerate_from first list)

-- as many labels more, and if the outer one is there, they are `outer::[0]`, `outer::[1]` and so on; without an outer one none
abbrev pub AddsElementLabels : Option ℕ → ℕ → List (String Global) → List (String Global) → Type 0
AddsElementLabels None count before after = after ≡ before
AddsElementLabels (Some outer) count before after = (more : List (String Global)) × (after ≡ before ++ more) × (length more ≡ count)
    × IfSome (slice_get before outer) (λ t. map string_bytes more ≡ map (λ i. text_under (Some t) (element_text i)) (range_with_len 0 count))

-- nothing but claims, labels and a fault is new
abbrev pub OnlyClaims : Constraints → Constraints → Type 0
OnlyClaims a b = b ≡ record a { notes = record a.notes { claims = b.notes.claims; labels = b.notes.labels; fault = b.notes.fault } }

-- a claim of each more, with its label
abbrev pub AddsClaims : List Claimed → Option ℕ → Option ℕ → Constraints → Constraints → Type 0
AddsClaims list condition outer a b = (a.notes.fault ≡ None)
    × AddsElementLabels outer (length list) a.notes.labels.items b.notes.labels.items
    × (b.notes.claims.items ≡ a.notes.claims.items ++ claims_from condition outer (length a.notes.labels.items) list)

-- a claim of each x more, in order, and nothing else; under an outer label, the i-th has the label `outer::[i]`
abbrev pub ClaimsOfEach : (ℕ → Claimed) → List (Option Body) → Option ℕ → Option ℕ → Constraints → Constraints → Type 0
ClaimsOfEach what xs condition outer a b = OnlyClaims a b
    × (b.notes.fault ≡ None → (ns : List ℕ) × AreNumbers xs ns × AddsClaims (map what ns) condition outer a b)

-- a claim of each x and the y at its place more, in order, and nothing else; under an outer label, the i-th has the label `outer::[i]`. Lists of
-- two lengths leave a fault.
abbrev pub ClaimsOfPairs : (ℕ → ℕ → Claimed) → List (Option Body) → List (Option Body) → Option ℕ → Option ℕ → Constraints → Constraints → Type 0
ClaimsOfPairs what xs ys condition outer a b = OnlyClaims a b
    × (b.notes.fault ≡ None → (ms ns : List ℕ) × AreNumbers xs ms × AreNumbers ys ns × (length ys ≡ length xs)
    × AddsClaims (map (λ p. what p.0 p.1) (zip ms ns)) condition outer a b)
