-- The debug builder's assertions without a name.
use Rattle.std.specs.Prelude.{◌≡◌, List, [], ◌∷◌, Bool, Result, ⊤}
use Rattle.air_field.specs.Ring.{CommRing, AlgebraOver}
use Rattle.air_field.specs.Extension.{Basis}
use Rattle.air_field.specs.Term.{Term, IsBase, with_leaves}
use Rattle.air_field.specs.Algebra.{closed_value, closed_value_in}
use Rattle.air_builder.specs.Assertion.{Assertion}
use Rattle.air_builder.specs.Batches.{AssertedEach}
use Rattle.air_builder.specs.Labels.{Labelled}
use Rattle.air_core.specs.declared.errors.AirError.{AirError}
use Rattle.air_report.specs.Debug.{RowData, row_reads_as, GrewAtRow}
use Rattle.air_report.specs.DebugLabels.{LogsOne, IsNameless, LabelledAtRow}
use Rattle.air_report.specs.DebugRow.{debug_row}
use Rattle.air_report.specs.RowRefusals.{RefusedAtRow}
use Rattle.air_report.specs.declared.debug.builder.DebugConstraintBuilder.{DebugConstraintBuilder}

-- an element means a base term at the builder's row
abbrev pub MeansAtRow : {F E : Type 0} → CommRing F → AlgebraOver F E → Basis F E
    → DebugConstraintBuilder F E → F → Term F → Type 0
MeansAtRow r a basis b x t =
    IsBase (with_leaves (row_reads_as r a basis (debug_row b)) t)
    × (closed_value r (with_leaves (row_reads_as r a basis (debug_row b)) t) ≡ x)

-- an element of the extension means a term at the builder's row
abbrev pub ExtMeansAtRow : {F E : Type 0} → CommRing F → AlgebraOver F E → Basis F E
    → DebugConstraintBuilder F E → E → Term F → Type 0
ExtMeansAtRow r a basis b x t = closed_value_in a (with_leaves (row_reads_as r a basis (debug_row b)) t) ≡ x

-- a call that asserts one element does as on any builder, with the debug builder's growth and errors
abbrev pub AssertedAtRow : {F E X : Type 0} → (RowData F E → Assertion F → Bool)
    → (DebugConstraintBuilder F E → X → Assertion F → Type 0)
    → DebugConstraintBuilder F E → DebugConstraintBuilder F E → X → Result ⊤ AirError
    → Type 0
AssertedAtRow zero asserts a b x result =
    AssertedEach asserts (λ c d. debug_row d ≡ debug_row c)
    (λ c d ts. GrewAtRow zero (debug_row c) (debug_row d) c.constraint_index d.constraint_index
    c.failures.items d.failures.items ts)
    (λ c e ts. RefusedAtRow zero (debug_row c) c.constraint_index e ts) a b (x ∷ []) result

-- the assertion was counted; if it failed, its failure has no label
abbrev pub LogsNameless : {F E : Type 0} → Bool → DebugConstraintBuilder F E
    → DebugConstraintBuilder F E → Type 0
LogsNameless holds a b =
    LogsOne a.row.index a.constraint_index b.constraint_index IsNameless holds a.failures.items
    b.failures.items

-- the builder grew by labelled assertions
abbrev pub GrewLabelled : {F E : Type 0} → (RowData F E → Assertion F → Bool)
    → DebugConstraintBuilder F E → DebugConstraintBuilder F E → List (Labelled F) → Type 0
GrewLabelled zero a b ls =
    LabelledAtRow zero (debug_row a) (debug_row b) a.constraint_index b.constraint_index
    a.failures.items b.failures.items ls
