-- The audit theorem: the result of an audit, and its errors.
use Rattle.std.specs.Prelude.{◌≡◌, ◌≢◌, ◌⊎◌, ℕ, zero, suc, ◌+◌, ◌-◌, ◌*◌, ◌%◌, ◌^◌, ◌<◌, ◌≤◌, ◌==◌, ⊤, Bool, not, if◌then◌else◌, List, [], ◌∷◌, ◌++◌, length, map, take, drop, All, Some, IfSome, unwrap_or, slice_get, slice_index_or, string_bytes}
use Rattle.std.specs.Int.{IsPowerOfTwo}
use Rattle.std.specs.Option.{option_map}
use Rattle.std.specs.List.{AllZip, filter, enumerate_from}
use Rattle.air_field.specs.Ring.{CommRing, self_algebra}
use Rattle.air_field.specs.Extension.{Basis}
use Rattle.air_field.specs.Grid.{Grid, table_grid}
use Rattle.air_field.specs.Term.{Leaf, preprocessed, main, periodic, public, first_row, last_row, transition, permutation, challenge, permutation_value, Term, leaf_term, ext_const_term}
use Rattle.air_field.specs.Same.{Simplifies}
use Rattle.air_field.specs.Polynomial.{polynomial, HasDegreeAtMost}
use Rattle.air_field.specs.Degree.{degree_by, greatest_degree, cached_weight, transition_weight, trace_weight, inferred_degree}
use Rattle.air_field.specs.Assignment.{Shape, IsMissing}
use Rattle.air_core.specs.Boundary.{row_of}
use Rattle.air_core.specs.Entries.{entry_leaf}
use Rattle.air_core.specs.ExtEntries.{ext_entry_leaf}
use Rattle.air_core.specs.declared.boundary.BoundaryPublic.{BoundaryPublic}
use Rattle.air_core.specs.declared.boundary.BoundaryIoError.{BoundaryIoError}
use Rattle.air_core.specs.declared.boundary.BoundaryIoError.TheVariants.{ColumnOutOfRange, PublicValueOutOfRange, DuplicateCell}
use Rattle.air_core.specs.declared.errors.AirError.{AirError}
use Rattle.air_core.specs.declared.errors.AirError.TheVariants.{Memory, DegreeOverflow, CountOverflow, MissingEntry, RowOffset, MissingExtEntry, NoPermutation, PreprocessedHeight, PeriodNotPowerOfTwo, PeriodDoesNotDivide, Boundary, EmptyTrace}
use Rattle.air_symbolic.specs.BaseLeaves.{base_term}
use Rattle.air_symbolic.specs.Nodes.{tree_of}
use Rattle.air_symbolic.specs.Trees.{term_of}
use Rattle.air_symbolic.specs.declared.pools.expr.SymbolicExpr.{SymbolicExpr}
use Rattle.air_symbolic.specs.declared.leaves.base_leaf.BaseLeaf.{BaseLeaf}
use Rattle.air_symbolic.specs.declared.leaves.ext_leaf.ExtLeaf.{ExtLeaf}
use Rattle.air_symbolic.specs.declared.leaves.ext_leaf.ExtLeaf.TheVariants as leaf
use Rattle.air_builder.specs.Assertion.{Assertion, Base, Extension}
use Rattle.air_builder.specs.Declaration.{Declaration}
use Rattle.air_builder.specs.Refusals.{IsOfWindow, IsPastWindow, NoneMissing, PartOf}
use Rattle.air_recording.specs.Inferred.{periods_of}
use Rattle.air_recording.specs.Recorded.{RecordsTerm}
use Rattle.air_recording.specs.Recordings.{Recording}
use Rattle.air_report.specs.Cells.{cell_label}
pub use Rattle.air_report.specs.Instances.{Instance, instance, row_count}
use Rattle.air_report.specs.Report.{all_places, assertion_value}
use Rattle.air_report.specs.declared.checks.report.ConstraintReport.{ConstraintReport}
use Rattle.air_audit.specs.declared.audit.Audit.{Audit}

-- ---- The value of a constraint on a row

-- the entry of a table at a row and a column, z if there is none
abbrev pub entry_at : {F : Type 0} → F → Grid F → ℕ → ℕ → F
entry_at z table row column = slice_index_or (unwrap_or (slice_get table.rows row) []) column z

-- The element that a leaf reads on row i. A column reads row i at offset 0, and the next row at offset 1 (after the last
-- comes the first); a periodic column reads its value at i modulo its period. The selectors are one on the first row, on
-- the last row, and on all rows but the last. A missing entry reads as zero.
abbrev pub read_at : {F : Type 0} → CommRing F → Instance F → ℕ → Leaf → F
read_at r x i (main zero c) = entry_at r.zero x.main i c
read_at r x i (main (suc zero) c) = entry_at r.zero x.main ((i + 1) % row_count x) c
read_at r x i (main (suc (suc o)) c) = r.zero
read_at r x i (preprocessed zero c) = entry_at r.zero (table_grid x.air.preprocessed) i c
read_at r x i (preprocessed (suc zero) c) = entry_at r.zero (table_grid x.air.preprocessed) ((i + 1) % row_count x) c
read_at r x i (preprocessed (suc (suc o)) c) = r.zero
read_at r x i (periodic c) = slice_index_or (map (λ column. slice_index_or column.items (i % length column.items) r.zero) x.air.periodic) c r.zero
read_at r x i (public k) = slice_index_or x.public k r.zero
read_at r x i first_row = if i == 0 then r.one else r.zero
read_at r x i last_row = if i + 1 == row_count x then r.one else r.zero
read_at r x i transition = if i + 1 == row_count x then r.zero else r.one
read_at r x i (permutation o c) = r.zero
read_at r x i (challenge k) = r.zero
read_at r x i (permutation_value k) = r.zero

-- the value of a constraint on row i
abbrev pub value_on : {F : Type 0} → CommRing F → Instance F → ℕ → Assertion F → F
value_on r x i t = assertion_value r (read_at r x i) t

-- ---- Entries that exist, and data that fits

-- the number of entries of each kind, with a main trace of this width and this number of public values
abbrev pub shape_with : {F : Type 0} → Declaration F → ℕ → ℕ → Shape
shape_with air width values = record {
  main_width = width;
  preprocessed_width = (table_grid air.preprocessed).width;
  periodic_columns = length air.periodic;
  public_values = values;
  permutation_width = 0;
  challenges = 0;
  permutation_values = 0;
}

-- each entry that a declared constraint names is one that the AIR declares
abbrev pub NamesOwnEntries : {F : Type 0} → Declaration F → Type 0
NamesOwnEntries air = NoneMissing (IsMissing (shape_with air air.width air.num_public_values)) air.constraints

-- the rows, if any, have each entry that a declared constraint names
abbrev pub RowsHaveEntries : {F : Type 0} → Instance F → Type 0
RowsHaveEntries x = 0 < row_count x → NoneMissing (IsMissing (shape_with x.air x.main.width (length x.public))) x.air.constraints

-- a period is a power of two that divides the number of rows
abbrev pub IsPeriodOf : ℕ → ℕ → Type 0
IsPeriodOf rows period = IsPowerOfTwo period × (rows % period ≡ 0)

-- the preprocessed trace is as high as the main trace
abbrev pub TableFits : {F : Type 0} → Instance F → Type 0
TableFits x = IfSome x.air.preprocessed (λ table. length table.rows ≡ row_count x)

-- the preprocessed trace is as high as the main trace, and the periods are powers of two that divide its height
pub record FixedColumnsFit {F : Type 0} (x : Instance F) : Type 0 where
  pub table_fits : TableFits x
  pub periods_fit : All (IsPeriodOf (row_count x)) (periods_of x.air.periodic)

-- a boundary value is in the trace, its public value exists, and no earlier one has its column and end
pub record IsProperCell {F : Type 0} (x : Instance F) (earlier : List BoundaryPublic) (cell : BoundaryPublic) : Type 0 where
  pub column_in : cell.column < x.main.width
  pub value_in : cell.public_value < length x.public
  pub is_new : All (λ c. c.column ≡ cell.column → c.end ≢ cell.end) earlier

-- each of the first n boundary values is proper
abbrev pub AreProperBelow : {F : Type 0} → Instance F → ℕ → Type 0
AreProperBelow x n = (k : ℕ) (cell : BoundaryPublic) → k < n → slice_get x.air.cells k ≡ Some cell → IsProperCell x (take k x.air.cells) cell

-- The trace fits: the fixed columns have its height, each row has the entries that constraints name, and the boundary values are
-- proper. More columns or public values than declared fit too.
pub record FitsDeclaration {F : Type 0} (x : Instance F) : Type 0 where
  pub fixed_columns : FixedColumnsFit x
  pub entries : RowsHaveEntries x
  pub cells : AreProperBelow x (length x.air.cells)
  pub rows_for_cells : x.air.cells ≢ [] → 0 < row_count x

-- ---- Recordings

-- the term of a leaf of an extension pool over these base nodes
abbrev pub ext_leaf_term : {F E : Type 0} → Basis F E → List (SymbolicExpr (BaseLeaf F)) → ExtLeaf F E → Term F
ext_leaf_term basis nodes (leaf.Base i) = term_of base_term (tree_of nodes i)
ext_leaf_term basis nodes (leaf.ExtVariable v) = leaf_term (ext_entry_leaf v.entry v.index)
ext_leaf_term basis nodes (leaf.ExtConstant c) = ext_const_term (basis.coefficients c)

-- the terms of the recorded base expressions: their trees, read as terms
abbrev pub recorded_base : {F E : Type 0} → Recording F E → List (Term F)
recorded_base recorded = map (λ i. term_of base_term (tree_of recorded.pool.base.nodes i)) recorded.base

-- the terms of the recorded extension expressions
abbrev pub recorded_ext : {F E : Type 0} → Basis F E → Recording F E → List (Term F)
recorded_ext basis recorded = map (λ i. term_of (ext_leaf_term basis recorded.pool.base.nodes) (tree_of recorded.pool.nodes i)) recorded.ext

-- all of them
abbrev pub terms_in : {F E : Type 0} → Basis F E → Recording F E → List (Term F)
terms_in basis recorded = recorded_base recorded ++ recorded_ext basis recorded

-- the base constraints of a list that begins at place k, each with its place
abbrev pub base_constraints : {F : Type 0} → ℕ → List (Assertion F) → List (ℕ × Term F)
base_constraints k [] = []
base_constraints k (Base t ∷ ts) = (k, t) ∷ base_constraints (k + 1) ts
base_constraints k (Extension t ∷ ts) = base_constraints (k + 1) ts

-- the extension constraints of a list that begins at place k, each with its place
abbrev pub ext_constraints : {F : Type 0} → ℕ → List (Assertion F) → List (ℕ × Term F)
ext_constraints k [] = []
ext_constraints k (Base t ∷ ts) = ext_constraints (k + 1) ts
ext_constraints k (Extension t ∷ ts) = (k, t) ∷ ext_constraints (k + 1) ts

-- These terms record the declared constraints: the k-th base term the k-th base constraint, the k-th extension term the
-- k-th extension constraint, and there are as many of each. A term that records another one has the same polynomial, the
-- same value and no greater degree, for all coefficients, values and weights of the leaves.
pub record RecordConstraints {F : Type 0} (r : CommRing F) (air : Declaration F) (base ext : List (Term F)) : Type 0 where
  pub each_base : AllZip (λ u c. RecordsTerm (self_algebra r) u c.1)
      base (base_constraints 0 air.constraints)
  pub each_ext : AllZip (λ u c. RecordsTerm (self_algebra r) u c.1)
      ext (ext_constraints 0 air.constraints)

-- At the place of each declared base constraint, and nowhere else, a base expression is recorded, and it records that
-- constraint; at the place of each extension constraint an extension expression.
pub record RecordsEach {F : Type 0} (r : CommRing F) (basis : Basis F F) (air : Declaration F) (audit : Audit F) : Type 0 where
  pub base_places : audit.layout.base_indices.items ≡ map (λ c. c.0) (base_constraints 0 air.constraints)
  pub ext_places : audit.layout.ext_indices.items ≡ map (λ c. c.0) (ext_constraints 0 air.constraints)
  pub terms : RecordConstraints r air (recorded_base audit.recorded) (recorded_ext basis audit.recorded)

-- The recorded numbers are in the pool (which is one by its type), and their terms stand for the declared constraints of
-- their kind, in order: by the laws of a commutative ring, in any algebra.
pub record MeansEach {F : Type 0} (r : CommRing F) (basis : Basis F F) (air : Declaration F) (recorded : Recording F F) : Type 0 where
  pub base_here : All (λ i. i < length recorded.pool.base.nodes) recorded.base
  pub ext_here : All (λ i. i < length recorded.pool.nodes) recorded.ext
  pub base : AllZip (λ u c. Simplifies r u c.1) (recorded_base recorded) (base_constraints 0 air.constraints)
  pub ext : AllZip (λ u c. Simplifies r u c.1) (recorded_ext basis recorded) (ext_constraints 0 air.constraints)

-- ---- Reports

-- all pairs of a row and a place at which the declared constraint isn't zero: by rows, and in each row by places
abbrev pub nonzero_places : {F : Type 0} → CommRing F → (F → F → Bool) → Instance F → List (ℕ × ℕ)
nonzero_places r eq x =
    map (λ p. (p.0, p.1.0)) (filter (λ p. not (eq (assertion_value r (read_at r x p.0) p.1.1) r.zero)) (all_places (row_count x) x.air.constraints))

-- the number of constraints, 0 without a row
abbrev pub constraints_per_row : {F : Type 0} → Instance F → ℕ
constraints_per_row x = if row_count x == 0 then 0 else length x.air.constraints

-- the boundary values whose cells don't hold their public values, each with its number in the list of boundary values
abbrev pub violated_cells : {F : Type 0} → CommRing F → (F → F → Bool) → Instance F → List (ℕ × BoundaryPublic)
violated_cells r eq x = filter (λ c. not (eq (entry_at r.zero x.main (row_of c.1.end (row_count x)) c.1.column) (slice_index_or x.public c.1.public_value r.zero))) (enumerate_from 0 x.air.cells)

-- the places where these are listed: the row of the cell, and the boundary value's number after all constraints
abbrev pub violated_places : {F : Type 0} → CommRing F → (F → F → Bool) → Instance F → List (ℕ × ℕ)
violated_places r eq x = map (λ c. (row_of c.1.end (row_count x), constraints_per_row x + c.0)) (violated_cells r eq x)

-- the rows and places of the failures that a report lists, in order
abbrev pub failure_places : ConstraintReport → List (ℕ × ℕ)
failure_places report = map (λ f. (f.row, f.constraint)) report.failures.items

-- the failures from number n on have the labels of these boundary values, in order
abbrev pub LabelsFrom : ℕ → List (ℕ × BoundaryPublic) → ConstraintReport → Type 0
LabelsFrom n cells report = map (λ f. option_map (λ s. string_bytes s) f.label) (drop n report.failures.items) ≡ map (λ c. Some (cell_label c.1)) cells

-- ---- The inferred degree

-- A domain over a trace: the greatest degree of each leaf's polynomial, and the greatest degree that degree d allows a
-- constraint's polynomial.
pub record Domain : Type 0 where
  pub leaf_degree : Leaf → ℕ
  pub bound : ℕ → ℕ

-- The domain in which the transition selector has weight w. For 0 it is linear, and degrees are those of polynomials
-- over the rows; for w from 1 it counts as w columns, and degrees are counted in columns.
abbrev pub domain : {F : Type 0} → ℕ → Instance F → Domain
domain zero x = record {
  leaf_degree = trace_weight (row_count x) (periods_of x.air.periodic);
  bound = λ d. d * (row_count x - 1) + 1;
}
domain (suc w) x = record {
  leaf_degree = λ l. transition_weight (suc w) l * (row_count x - 1);
  bound = λ d. d * (row_count x - 1);
}

-- The degree of terms in that domain. For weight 0 it is the degree of the quotient of the greatest polynomial by one
-- that vanishes on all rows, and without periodic columns at least the greatest number of columns in a product; for a
-- weight from 1 it is the greatest degree counted in columns.
abbrev pub degree_in : {F : Type 0} → ℕ → Instance F → List (Term F) → ℕ
degree_in zero x ts = inferred_degree (row_count x) (periods_of x.air.periodic) ts
degree_in (suc w) x ts = greatest_degree (transition_weight (suc w)) ts

-- d is the least number that has the property
pub record IsLeast (P : ℕ → Type 0) (d : ℕ) : Type 0 where
  pub meets : P d
  pub least : (e : ℕ) → P e → d ≤ e

-- in a domain degree d bounds the terms' degrees
abbrev pub BoundsDegrees : {F : Type 0} → Domain → List (Term F) → ℕ → Type 0
BoundsDegrees dom ts d = All (λ t. degree_by dom.leaf_degree t ≤ dom.bound d) ts

-- in a domain degree d bounds the degrees of the terms' polynomials, if each leaf's polynomial has at most its degree
abbrev pub BoundsPolynomials : {F : Type 0} → CommRing F → Domain → List (Term F) → ℕ → Type 0
BoundsPolynomials {F = F} r dom ts d =
    (s : Leaf → List F)
    → ((l : Leaf)
    → HasDegreeAtMost r (polynomial (self_algebra r) s (leaf_term l)) (dom.leaf_degree l))
    → All (λ t. HasDegreeAtMost r (polynomial (self_algebra r) s t) (dom.bound d)) ts

-- ---- Errors

-- A constraint names a missing entry: the error names the entry, or its row, or says that there is no permutation trace.
abbrev pub NamesMissing : {F : Type 0} → Shape → Declaration F → AirError → Type 0
NamesMissing shape air (MissingEntry e i) = IsMissing shape (entry_leaf e i) × PartOf (leaf_term (entry_leaf e i)) air.constraints × IsOfWindow e
NamesMissing shape air (MissingExtEntry e i) = IsMissing shape (ext_entry_leaf e i) × PartOf (leaf_term (ext_entry_leaf e i)) air.constraints
NamesMissing shape air (RowOffset o) = (l : Leaf) × IsPastWindow o l × IsMissing shape l × PartOf (leaf_term l) air.constraints
NamesMissing shape air NoPermutation = (o : ℕ) × (i : ℕ) × IsMissing shape (permutation o i) × PartOf (leaf_term (permutation o i)) air.constraints
NamesMissing shape air _ = ⊥

-- The recording's errors: `Memory`; a part of a constraint has a cached degree past `usize`; a constraint names an entry
-- that the AIR doesn't declare.
abbrev pub RecordingRefuses : {F : Type 0} → Declaration F → AirError → Type 0
RecordingRefuses air Memory = ⊤
RecordingRefuses {F = F} air DegreeOverflow = (t : Term F) × (2 ^ 64 ≤ degree_by cached_weight t) × PartOf t air.constraints
RecordingRefuses air e = NamesMissing (shape_with air air.width air.num_public_values) air e

-- The recording succeeds: the AIR has each entry that its constraints name, and some terms that record these constraints
-- have cached degrees within `usize`.
pub record IsRecordable {F : Type 0} (r : CommRing F) (air : Declaration F) : Type 0 where
  pub there : NamesOwnEntries air
  pub base : List (Term F)
  pub ext : List (Term F)
  pub recorded : RecordConstraints r air base ext
  pub within : greatest_degree cached_weight (base ++ ext) < 2 ^ 64

-- The errors of fixed columns: a preprocessed trace of another height; the first period that isn't a power of two or
-- doesn't divide the number of rows.
abbrev pub FixedColumnsRefuse : {F : Type 0} → Instance F → AirError → Type 0
FixedColumnsRefuse {F = F} x (PreprocessedHeight n h) =
    ((table : Grid F) × (x.air.preprocessed ≡ Some table) × (n ≡ length table.rows)) × (h ≡ row_count x) × (n ≢ h)
FixedColumnsRefuse x (PeriodNotPowerOfTwo i n) =
    TableFits x × All (IsPeriodOf (row_count x)) (take i (periods_of x.air.periodic)) × (slice_get (periods_of x.air.periodic) i ≡ Some n) × ¬ (IsPowerOfTwo n)
FixedColumnsRefuse x (PeriodDoesNotDivide i n h) =
    TableFits x × All (IsPeriodOf (row_count x)) (take i (periods_of x.air.periodic)) × (slice_get (periods_of x.air.periodic) i ≡ Some n)
    × IsPowerOfTwo n × (h ≡ row_count x) × (h % n ≢ 0)
FixedColumnsRefuse x _ = ⊥

-- The errors of rows, if there are any: more constraints than `usize` counts; a constraint names an entry that the trace
-- lacks.
abbrev pub EvaluationRefuses : {F : Type 0} → Instance F → AirError → Type 0
EvaluationRefuses x CountOverflow = (0 < row_count x) × (2 ^ 64 ≤ length x.air.constraints)
EvaluationRefuses x e = (0 < row_count x) × NamesMissing (shape_with x.air x.main.width (length x.public)) x.air e

-- a boundary value's first fault
abbrev pub IsFaultOfCell : {F : Type 0} → Instance F → List BoundaryPublic → BoundaryPublic → BoundaryIoError → Type 0
IsFaultOfCell x earlier cell (ColumnOutOfRange column width) =
    (x.main.width ≤ cell.column) × (column ≡ cell.column) × (width ≡ x.main.width)
IsFaultOfCell x earlier cell (PublicValueOutOfRange index n) =
    (cell.column < x.main.width) × (length x.public ≤ cell.public_value) × (index ≡ cell.public_value) × (n ≡ length x.public)
IsFaultOfCell x earlier cell (DuplicateCell column end) =
    (cell.column < x.main.width) × (cell.public_value < length x.public)
    × ((k : ℕ) × (c : BoundaryPublic) × (slice_get earlier k ≡ Some c) × (c.column ≡ cell.column) × (c.end ≡ cell.end))
    × (column ≡ cell.column) × (end ≡ cell.end)

-- The errors of boundary values: the first that isn't proper; proper ones, and no row.
abbrev pub CellsRefuse : {F : Type 0} → Instance F → AirError → Type 0
CellsRefuse x (Boundary fault) =
    (k : ℕ) × (cell : BoundaryPublic) × (slice_get x.air.cells k ≡ Some cell) × AreProperBelow x k × IsFaultOfCell x (take k x.air.cells) cell fault
CellsRefuse x EmptyTrace = AreProperBelow x (length x.air.cells) × (x.air.cells ≢ []) × (row_count x ≡ 0)
CellsRefuse x _ = ⊥

-- The report's error: the place of a violated boundary value passes `usize`.
abbrev pub ReportRefuses : {F : Type 0} → CommRing F → (F → F → Bool) → Instance F → AirError → Type 0
ReportRefuses r eq x CountOverflow =
    (k : ℕ) × (c : ℕ × BoundaryPublic) × (slice_get (violated_cells r eq x) k ≡ Some c) × (2 ^ 64 ≤ constraints_per_row x + c.0)
ReportRefuses r eq x _ = ⊥

-- the degree of some terms that record the declared constraints passes `usize`
pub record DegreeOverflows {F : Type 0} (r : CommRing F) (w : ℕ) (x : Instance F) : Type 0 where
  pub base : List (Term F)
  pub ext : List (Term F)
  pub recorded : RecordConstraints r x.air base ext
  pub past : 2 ^ 64 ≤ degree_in w x (base ++ ext)

-- The first error: of the recording, the fixed columns, the rows, the boundary values, the report, the degree. Each line
-- states the conditions that hold before it.
abbrev pub AuditRefuses : {F : Type 0} → CommRing F → (F → F → Bool) → Instance F → ℕ → AirError → Type 0
AuditRefuses r eq x w e =
    RecordingRefuses x.air e
    ⊎ (IsRecordable r x.air × (FixedColumnsRefuse x e
    ⊎ (FixedColumnsFit x × (EvaluationRefuses x e
    ⊎ (RowsHaveEntries x × (CellsRefuse x e
    ⊎ (FitsDeclaration x × (ReportRefuses r eq x e
    ⊎ ((e ≡ DegreeOverflow) × DegreeOverflows r w x)))))))))
