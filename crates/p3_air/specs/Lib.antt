-- What the clauses of all that p3_air passes on, an AIR's declaration and the goal of a refusal speak in.

-- rings and fields, terms and what they are on a row, matrices
pub use Rattle.air_field.specs.Ring
pub use Rattle.air_field.specs.RingOps
pub use Rattle.air_field.specs.Algebra
pub use Rattle.air_field.specs.Joins
pub use Rattle.air_field.specs.Domain
pub use Rattle.air_field.specs.Modular
pub use Rattle.air_field.specs.Residue
pub use Rattle.air_field.specs.Prime
pub use Rattle.air_field.specs.NoSquare
pub use Rattle.air_field.specs.Limbs
pub use Rattle.air_field.specs.Goldilocks
pub use Rattle.air_field.specs.Binomial
pub use Rattle.air_field.specs.Coefficients
pub use Rattle.air_field.specs.Powers
pub use Rattle.air_field.specs.Extension
pub use Rattle.air_field.specs.ExtAlgebra
pub use Rattle.air_field.specs.Comparison
pub use Rattle.air_field.specs.Term
pub use Rattle.air_field.specs.Value
pub use Rattle.air_field.specs.Polynomial
pub use Rattle.air_field.specs.Same
pub use Rattle.air_field.specs.Degree
pub use Rattle.air_field.specs.Assignment
pub use Rattle.air_field.specs.OneRow
pub use Rattle.air_field.specs.Grid
pub use Rattle.air_field.specs.Matrix
pub use Rattle.air_field.specs.declared.errors.RingError
pub use Rattle.air_field.specs.declared.errors.MatrixError
-- entries, windows, boundary cells, periodic columns, names, refusals
pub use Rattle.air_core.specs.Entries
pub use Rattle.air_core.specs.ExtEntries
pub use Rattle.air_core.specs.declared.variables.entry.BaseEntry
pub use Rattle.air_core.specs.declared.variables.ext_entry.ExtEntry
pub use Rattle.air_core.specs.WindowShapes
pub use Rattle.air_core.specs.Boundary
pub use Rattle.air_core.specs.Periodic
pub use Rattle.air_core.specs.FirstOnes
pub use Rattle.air_core.specs.Texts
pub use Rattle.air_core.specs.Errors
pub use Rattle.air_core.specs.declared.boundary.BoundaryPublic
pub use Rattle.air_core.specs.declared.boundary.BoundaryEnd
pub use Rattle.air_core.specs.declared.boundary.BoundaryIoError
pub use Rattle.air_core.specs.declared.errors.AirError
-- expressions, their pools, and lists of them
pub use Rattle.air_symbolic.specs.Trees
pub use Rattle.air_symbolic.specs.Nodes
pub use Rattle.air_symbolic.specs.Leaves
pub use Rattle.air_symbolic.specs.BaseLeaves
pub use Rattle.air_symbolic.specs.ExtLeaves
pub use Rattle.air_symbolic.specs.Pools
pub use Rattle.air_symbolic.specs.ExtPool
pub use Rattle.air_symbolic.specs.ExtTrees
pub use Rattle.air_symbolic.specs.SimplifiedLists
pub use Rattle.air_symbolic.specs.Simplification
pub use Rattle.air_symbolic.specs.PoolRefusals
pub use Rattle.air_symbolic.specs.DegreeTables
pub use Rattle.air_symbolic.specs.Weights
pub use Rattle.air_symbolic.specs.Lowered
pub use Rattle.air_symbolic.specs.Reach
pub use Rattle.air_symbolic.specs.declared.pools.expr.SymbolicExpr
pub use Rattle.air_symbolic.specs.declared.leaves.base_leaf.BaseLeaf
pub use Rattle.air_symbolic.specs.declared.leaves.ext_leaf.ExtLeaf
pub use Rattle.air_symbolic.specs.declared.pools.weight.LeafWeight
pub use Rattle.air_json.specs.NodeLists
pub use Rattle.air_json.specs.ListReaders
pub use Rattle.air_json.specs.NodeFaults
pub use Rattle.air_json.specs.Nodes as NodesFromValues
pub use Rattle.air_json.specs.ReadCalls
pub use Rattle.air_json.specs.Results
pub use Rattle.air_json.specs.Unshared
pub use Rattle.air_json.specs.Written
pub use Rattle.air_json.specs.Writing
pub use Rattle.air_json.specs.Spelling
pub use Rattle.air_json.specs.Parts
pub use Rattle.air_json.specs.Plain
pub use Rattle.air_json.specs.Coefficients as CoefficientSpellings
pub use Rattle.air_json.specs.EntryForms
pub use Rattle.air_json.specs.Faults as ReadingFaults
pub use Rattle.air_json.specs.Entries as EntrySpellings
pub use Rattle.air_json.specs.ExtEntries as ExtEntrySpellings
pub use Rattle.air_json.specs.BaseLeaves as BaseLeafSpellings
pub use Rattle.air_json.specs.ExtLeaves as ExtLeafSpellings
pub use Rattle.air_json.specs.Boundaries as BoundarySpellings
pub use Rattle.air_json.specs.WholeNumbers
pub use Rattle.air_json.specs.declared.errors.FlatError
-- an AIR's declaration, and what its calls to a builder assert and refuse
pub use Rattle.air_builder.specs.Assertion
pub use Rattle.air_builder.specs.Notation
pub use Rattle.air_builder.specs.Declaration
pub use Rattle.air_builder.specs.declared.airs.beside.Beside
pub use Rattle.air_builder.specs.Batches
pub use Rattle.air_builder.specs.Labels
pub use Rattle.air_builder.specs.Filters
pub use Rattle.air_builder.specs.NamedFilters
pub use Rattle.air_builder.specs.Extensions
pub use Rattle.air_builder.specs.ExtensionFilters
pub use Rattle.air_builder.specs.Refusals
pub use Rattle.air_builder.specs.Refused
pub use Rattle.air_builder.specs.PermutationRows as PermutationBuilders
pub use Rattle.air_gadgets.specs.Words
pub use Rattle.air_gadgets.specs.Gadgets
pub use Rattle.air_gadgets.specs.Bits
pub use Rattle.air_gadgets.specs.Packing
pub use Rattle.air_gadgets.specs.PowerSums
pub use Rattle.air_gadgets.specs.Exact
pub use Rattle.air_gadgets.specs.Columns
pub use Rattle.air_gadgets.specs.declared.columns.pair_col.PairCol
pub use Rattle.air_gadgets.specs.Errors as ColumnErrors
pub use Rattle.air_author.specs.Expressions
pub use Rattle.air_author.specs.Constraints
pub use Rattle.air_author.specs.Kinds
pub use Rattle.air_author.specs.Handing
pub use Rattle.air_author.specs.Moved
pub use Rattle.air_gadgets.specs.BitTerms
pub use Rattle.air_gadgets.specs.WordTerms
pub use Rattle.air_gadgets.specs.XorTerms
-- recordings, their layouts and degrees
pub use Rattle.air_recording.specs.Recorded
pub use Rattle.air_recording.specs.Kinds as ConstraintKinds
pub use Rattle.air_recording.specs.Recording
pub use Rattle.air_recording.specs.RecordedLists
pub use Rattle.air_recording.specs.SymbolicParts
pub use Rattle.air_recording.specs.Rows
pub use Rattle.air_recording.specs.Layouts
pub use Rattle.air_recording.specs.Folds
pub use Rattle.air_recording.specs.AlphaPowers
pub use Rattle.air_recording.specs.Inferred
pub use Rattle.air_recording.specs.Bounds
pub use Rattle.air_recording.specs.Spellings
pub use Rattle.air_recording.specs.declared.layouts.air_layout.AirLayout
pub use Rattle.air_recording.specs.declared.layouts.constraint_layout.ConstraintLayout
-- checks and their reports
pub use Rattle.air_report.specs.Instances
pub use Rattle.air_report.specs.Shapes
pub use Rattle.air_report.specs.Cells
pub use Rattle.air_report.specs.Checks
pub use Rattle.air_report.specs.ReportBy
pub use Rattle.air_report.specs.Permuted
pub use Rattle.air_report.specs.Report
pub use Rattle.air_report.specs.RowRefusals
pub use Rattle.air_report.specs.Debug
pub use Rattle.air_report.specs.DebugRow
pub use Rattle.air_report.specs.DebugAsserts
pub use Rattle.air_report.specs.DebugLabels
pub use Rattle.air_report.specs.RowLabels
pub use Rattle.air_report.specs.FailureTexts
pub use Rattle.air_report.specs.declared.checks.check_first.CheckError
pub use Rattle.air_report.specs.declared.checks.report.ConstraintReport
pub use Rattle.air_report.specs.declared.debug.failure.ConstraintFailure
pub use Rattle.air_gadgets.specs.Numbers
-- an author's words in one place; the audit theorem; AIRs that are recorded or read from lists
pub use Rattle.air_audit.specs.Author
pub use Rattle.air_audit.specs.Claims
pub use Rattle.air_audit.specs.Theorem
pub use Rattle.air_audit.specs.DeclaredShape
pub use Rattle.air_audit.specs.declared.declared_shape.ShapeError
pub use Rattle.air_audit.specs.Audits
pub use Rattle.air_audit.specs.RecordedAirs
pub use Rattle.air_builder.specs.Builders
pub use Rattle.air_audit.specs.Plans
pub use Rattle.air_audit.specs.Tables
pub use Rattle.air_audit.specs.FlatAirs
pub use Rattle.air_audit.specs.RootLabels
pub use Rattle.air_audit.specs.PermutationRows
pub use Rattle.air_audit.specs.laws
pub use Rattle.air_audit.specs.ExtPlans
pub use Rattle.air_audit.specs.FlatExtAirs
-- code-only AIRs: what their calls write, and what the AIR declares
pub use Rattle.air_draft.specs.DraftTerms
pub use Rattle.air_draft.specs.ExtDraftTerms
pub use Rattle.air_draft.specs.DraftEntries
pub use Rattle.air_draft.specs.Drafts
pub use Rattle.air_draft.specs.ExtDrafts
-- what the calls of expressions and constraints write
pub use Rattle.air_tape.specs.Tapes
pub mod HandleView
pub mod HandleSteps
pub mod HandleClaims
pub mod HandleLists
pub mod HandleDrafts
pub mod TraceRows
