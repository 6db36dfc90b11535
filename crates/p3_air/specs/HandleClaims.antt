-- What the calls of constraints and of groups write into the notes. Where these have a fault afterwards, an entry may be missing.
use Rattle.std.specs.Prelude.{◌≡◌, ℕ, List, [], ◌∷◌, ◌++◌, Option, None, Some, length, string_bytes, IsSomeAnd}
use Rattle.air_draft.specs.DraftEntries.{OneMore, label_text}
use Rattle.air_draft.specs.DraftTerms.{factors_of}
use Rattle.air_draft.specs.declared.claim.Claim.{Claim}
use Rattle.air_draft.specs.declared.claim.Claimed.{Claimed}
use Rattle.air_draft.specs.declared.claim.Factor.{Factor}
use Rattle.p3_air.specs.HandleView.{known}
use Rattle.p3_air.specs.declared.expressions.nodes.Body.{Body}
use Rattle.p3_air.specs.declared.handles.constraints.Constraints.{Constraints}

-- nothing but a fault is new
abbrev pub OnlyFault : Constraints → Constraints → Type 0
OnlyFault a b = b ≡ record a { notes = record a.notes { fault = b.notes.fault } }

-- one claim more, and nothing else
abbrev pub AddsClaim : Claim → Constraints → Constraints → Type 0
AddsClaim claim a b = (b ≡ record a { notes = record a.notes { claims = b.notes.claims; fault = b.notes.fault } })
    × (b.notes.fault ≡ None → (a.notes.fault ≡ None) × (b.notes.claims.items ≡ a.notes.claims.items ++ claim ∷ []))

-- one claim of x more, and nothing else
abbrev pub ClaimsOf : (ℕ → Claimed) → Option Body → Option ℕ → Option ℕ → Constraints → Constraints → Type 0
ClaimsOf what x condition label a b = (b ≡ record a { notes = record a.notes { claims = b.notes.claims; fault = b.notes.fault } })
    × (b.notes.fault ≡ None → IsSomeAnd (known x) (λ k. (a.notes.fault ≡ None) × (b.notes.claims.items ≡ a.notes.claims.items ++ (record { claimed = what k.at.index; condition = condition; label = label } ∷ []))))

-- one claim of x and y more, and nothing else
abbrev pub ClaimsOfBoth : (ℕ → ℕ → Claimed) → Option Body → Option Body → Option ℕ → Option ℕ → Constraints → Constraints → Type 0
ClaimsOfBoth what x y condition label a b = (b ≡ record a { notes = record a.notes { claims = b.notes.claims; fault = b.notes.fault } })
    × (b.notes.fault ≡ None → IsSomeAnd (known x) (λ k. IsSomeAnd (known y) (λ l.
    (a.notes.fault ≡ None) × (b.notes.claims.items ≡ a.notes.claims.items ++ (record { claimed = what k.at.index l.at.index; condition = condition; label = label } ∷ [])))))

-- one condition more, whose number this is: the factor beside those of the outer one; and nothing else
abbrev pub AddsCondition : Factor → Option ℕ → Option ℕ → Constraints → Constraints → Type 0
AddsCondition factor outer number a b = (b ≡ record a { notes = record a.notes { conditions = b.notes.conditions; fault = b.notes.fault } })
    × (b.notes.fault ≡ None → (a.notes.fault ≡ None) × (number ≡ Some (length a.notes.conditions.items))
    × OneMore (λ v. v.items ≡ factor ∷ factors_of a.notes.conditions.items outer) a.notes.conditions.items b.notes.conditions.items)

-- the factor is of x
abbrev pub ConditionOf : (ℕ → Factor) → Option Body → Option ℕ → Option ℕ → Constraints → Constraints → Type 0
ConditionOf factor x outer number a b = (b ≡ record a { notes = record a.notes { conditions = b.notes.conditions; fault = b.notes.fault } })
    × (b.notes.fault ≡ None → IsSomeAnd (known x) (λ k. (a.notes.fault ≡ None) × (number ≡ Some (length a.notes.conditions.items))
    × OneMore (λ v. v.items ≡ factor k.at.index ∷ factors_of a.notes.conditions.items outer) a.notes.conditions.items b.notes.conditions.items))

-- the factor is of x and y
abbrev pub ConditionOfBoth : (ℕ → ℕ → Factor) → Option Body → Option Body → Option ℕ → Option ℕ → Constraints → Constraints → Type 0
ConditionOfBoth factor x y outer number a b = (b ≡ record a { notes = record a.notes { conditions = b.notes.conditions; fault = b.notes.fault } })
    × (b.notes.fault ≡ None → IsSomeAnd (known x) (λ k. IsSomeAnd (known y) (λ l. (a.notes.fault ≡ None) × (number ≡ Some (length a.notes.conditions.items))
    × OneMore (λ v. v.items ≡ factor k.at.index l.at.index ∷ factors_of a.notes.conditions.items outer) a.notes.conditions.items b.notes.conditions.items)))

-- one label more, whose number this is: the text under the outer label; and nothing else
abbrev pub AddsLabel : List ℕ → Option ℕ → Option ℕ → Constraints → Constraints → Type 0
AddsLabel text outer number a b = (b ≡ record a { notes = record a.notes { labels = b.notes.labels; fault = b.notes.fault } })
    × (b.notes.fault ≡ None → (a.notes.fault ≡ None) × (number ≡ Some (length a.notes.labels.items))
    × OneMore (λ s. string_bytes s ≡ label_text a.notes.labels.items outer text) a.notes.labels.items b.notes.labels.items)

-- a label of an index more under an outer one; without an outer one nothing changes
abbrev pub AddsIndexLabel : List ℕ → Option ℕ → Option ℕ → Constraints → Constraints → Type 0
AddsIndexLabel text None number a b = (b ≡ a) × (number ≡ None)
AddsIndexLabel text (Some outer) number a b = AddsLabel text (Some outer) number a b
