-- What the calls of handles write. Nothing is said of a result without a step: memory ran out, or an operand has none or is one of other expressions.
use Rattle.std.specs.Prelude.{◌≡◌, ℕ, List, Option, IfSome, IsSomeAnd}
use Rattle.boxcar.specs.Slot.{Named}
use Rattle.air_core.specs.declared.variables.entry.BaseEntry.{BaseEntry}
use Rattle.air_core.specs.declared.variables.entry.BaseEntry.TheVariants.{Main as MainEntry, Preprocessed as PreprocessedEntry}
use Rattle.p3_air.specs.HandleView.{known}
use Rattle.air_draft.specs.declared.step.Step.{Step}
use Rattle.p3_air.specs.declared.expressions.nodes.Expressions.{Expressions}
use Rattle.p3_air.specs.declared.expressions.nodes.Body.{Body}
use Rattle.p3_air.specs.declared.expressions.windows.Table.{Table}
use Rattle.p3_air.specs.declared.expressions.windows.Table.TheVariants.{Main, Preprocessed}

-- the expression is one of the tape, if it has a step
abbrev pub IsOf : List Named → Option Body → Type 0
IsOf tape x = IfSome (known x) (λ k. k.tape ≡ tape)

abbrev pub Writes : Expressions → Step → Option Body → Type 0
Writes expressions step result = IfSome (known result) (λ k. (k.tape ≡ expressions.steps) × (k.at.value ≡ step))

-- the step is that of x, in the tape of x
abbrev pub Makes : (ℕ → Step) → Option Body → Option Body → Type 0
Makes op x result = IfSome (known result) (λ k. IsSomeAnd (known x) (λ a. (k.tape ≡ a.tape) × (k.at.value ≡ op a.at.index)))

-- the step is that of x and y, in the tape of x
abbrev pub Joins : (ℕ → ℕ → Step) → Option Body → Option Body → Option Body → Type 0
Joins op x y result = IfSome (known result) (λ k. IsSomeAnd (known x) (λ a. IsSomeAnd (known y) (λ b. (k.tape ≡ a.tape) × (k.at.value ≡ op a.at.index b.at.index))))

abbrev pub window_entry : Table → ℕ → BaseEntry
window_entry Main offset = MainEntry offset
window_entry Preprocessed offset = PreprocessedEntry offset
