-- The draft that constraints make.
use Rattle.std.specs.Prelude.{◌≡◌, List, [], None}
use Rattle.boxcar.specs.Slot.{Named}
use Rattle.air_tape.specs.Tapes.{Where, Told}
use Rattle.air_draft.specs.declared.step.Step.{Step}
use Rattle.air_draft.specs.declared.fixed.Fixed.{Fixed}
use Rattle.air_draft.specs.declared.draft.Draft.{Draft}
use Rattle.p3_air.specs.declared.handles.constraints.Constraints.{Constraints}

-- The steps may be those of a tape, in order: there are records as of receipts, one for each, of the tape and with its number. That they are
-- the tape's shows where an expression is at hand, by the listing's `get`.
abbrev pub ListsTape : List Named → List Step → Type 0
ListsTape tape steps = (shown : List (Where Step)) × Told tape steps shown

-- a draft of these notes, with the steps of the expressions, which fixes something of which P holds; where there is a fault, steps may
-- be missing
abbrev pub IsDraftWith : {F : Type 0} → (Fixed F → Type 0) → Constraints → Draft F → Type 0
IsDraftWith P c d = P d.fixed × (d.notes ≡ record c.notes { fault = d.notes.fault })
    × (d.notes.fault ≡ None → (c.notes.fault ≡ None) × ListsTape c.expressions.now.steps d.steps.items)

-- the draft fixes this
abbrev pub IsDraftOf : {F : Type 0} → Constraints → Fixed F → Draft F → Type 0
IsDraftOf c fixed d = IsDraftWith (λ f. f ≡ fixed) c d

-- no preprocessed trace, no periodic columns, no constants of the field
abbrev pub FixesNothing : {F : Type 0} → Fixed F → Type 0
FixesNothing f = (f.preprocessed ≡ None) × (f.periodic.items ≡ []) × (f.constants.items ≡ [])
