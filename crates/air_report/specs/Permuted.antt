-- A trace with a permutation trace.
use Rattle.std.specs.Prelude.{◌≡◌, ◌⊎◌, ℕ, ◌+◌, ◌%◌, List, [], ◌∷◌, length, Bool, true, Option, slice_get, ⊤}
use Rattle.air_field.specs.Ring.{CommRing, AlgebraOver, self_algebra}
use Rattle.air_field.specs.Grid.{Grid}
use Rattle.air_field.specs.Term.{Leaf, Term, IsBase}
use Rattle.air_field.specs.Value.{value}
use Rattle.air_field.specs.OneRow.{PermutationData, one_row_value}
use Rattle.air_field.specs.Assignment.{Shape, Trace, RowValues, leaf_value, trace_shape, row_at, row_or_none, IsMissing}
use Rattle.air_builder.specs.Assertion.{Assertion, Base, Extension}
use Rattle.air_core.specs.declared.errors.AirError.{AirError}
use Rattle.air_report.specs.Debug.{RowData, is_zero_at, ext_row_leaves}
use Rattle.air_report.specs.Instances.{Instance, instance_trace, row_count}
use Rattle.air_report.specs.ReportBy.{Fits, IsReportBy, RefusesAfterShapesBy}
use Rattle.air_report.specs.Shapes.{IsShapeFault, IsHeightFault, table_height}
use Rattle.air_report.specs.declared.checks.permutation.Permutation.{Permutation}
use Rattle.air_report.specs.declared.checks.report.ConstraintReport.{ConstraintReport}

-- the permutation trace, the challenges, and the values that the permutation argument exposes
pub record PermutationTrace (E : Type 0) : Type 0 where
  pub trace : Grid E
  pub challenges : List E
  pub exposed : List E

abbrev pub permutation_trace : {E : Type 0} → Permutation E → PermutationTrace E
permutation_trace p = record { trace = p.trace.now; challenges = p.challenges.now; exposed = p.values.now }

-- a row of the permutation trace and the next one (after the last comes the first), the challenges and the exposed values
abbrev pub permutation_at : {E : Type 0} → PermutationTrace E → ℕ → PermutationData E
permutation_at p i = record {
  current = row_or_none (slice_get p.trace.rows i);
  next = row_or_none (slice_get p.trace.rows ((i + 1) % length p.trace.rows));
  challenges = p.challenges;
  exposed = p.exposed;
}

-- row i of a trace and of its permutation trace
abbrev pub permuted_row : {F E : Type 0} → CommRing F → Trace F → PermutationTrace E → ℕ → RowData F E
permuted_row r trace p i = record { row = i; values = row_at r trace i; has_permutation = true; permutation = permutation_at p i }

-- the number of entries of each kind
abbrev pub permuted_shape : {F E : Type 0} → Instance F → PermutationTrace E → Shape
permuted_shape g p = record (trace_shape (instance_trace g)) {
  permutation_width = p.trace.width;
  challenges = length p.challenges;
  permutation_values = length p.exposed;
}

-- neither the trace nor the permutation data has an entry for the leaf
abbrev pub PermutedMissing : {F E : Type 0} → Instance F → PermutationTrace E → Leaf → Type 0
PermutedMissing g p l = IsMissing (permuted_shape g p) l

-- whether an assertion is zero at row i: a base term by its value in F, an extension term by its value over the extension
abbrev pub permuted_zero : {F E : Type 0} → CommRing F → AlgebraOver F E → (F → F → Bool) → (E → E → Bool) → Instance F → PermutationTrace E
    → ℕ → Assertion F → Bool
permuted_zero r a eq ext_eq g p i t = is_zero_at r a eq ext_eq (permuted_row r (instance_trace g) p i) t

-- the permutation trace has the trace's height
abbrev pub HasHeight : {F E : Type 0} → Instance F → PermutationTrace E → Type 0
HasHeight g p = length p.trace.rows ≡ row_count g

-- The report of a check with permutation data under a cap: as `IsReport`, where a base term is evaluated in F, and an
-- extension term over the extension.
abbrev pub IsPermutedReport : {F E : Type 0} → CommRing F → AlgebraOver F E → (F → F → Bool) → (E → E → Bool) → Instance F → PermutationTrace E
    → Option ℕ → ConstraintReport → Type 0
IsPermutedReport r a eq ext_eq g p cap report =
    IsReportBy r eq (permuted_zero r a eq ext_eq g p) (PermutedMissing g p) g cap report

-- The errors of such a check, in order: the first shape that doesn't fit; another height of the permutation trace; the
-- errors of the rows; the first boundary value that doesn't fit; a listed one whose constraint index exceeds `usize`.
-- `Memory` occurs only once the shapes and heights fit.
abbrev pub PermutedCheckRefuses : {F E : Type 0} → CommRing F → AlgebraOver F E → (F → F → Bool) → (E → E → Bool) → Instance F → PermutationTrace E
    → Option ℕ → AirError → Type 0
PermutedCheckRefuses r a eq ext_eq g p cap e = IsShapeFault g.air.periodic (row_count g) (table_height g.air.preprocessed) e
    ⊎ (Fits g × (IsHeightFault (length p.trace.rows) (row_count g) e
    ⊎ (HasHeight g p × RefusesAfterShapesBy r eq (permuted_zero r a eq ext_eq g p) (PermutedMissing g p) g cap e)))

-- the value of an assertion's term over the extension
abbrev pub value_over : {F E : Type 0} → AlgebraOver F E → (Leaf → E) → Assertion F → E
value_over a s (Base t) = value a s t
value_over a s (Extension t) = value a s t

-- whether an assertion's value over the extension is zero at row i
abbrev pub zero_over : {F E : Type 0} → CommRing F → AlgebraOver F E → (E → E → Bool) → Instance F → PermutationTrace E → ℕ → Assertion F → Bool
zero_over r a ext_eq g p i t = ext_eq (value_over a (ext_row_leaves r a (permuted_row r (instance_trace g) p i)) t) a.ring.zero

-- over the extension the term has the image of its value in F, at every row
abbrev pub IsEmbedded : {F E : Type 0} → CommRing F → AlgebraOver F E → Term F → Type 0
IsEmbedded {F} {E} r a t =
    (v : RowValues F) (q : PermutationData E) → value a (one_row_value r.zero a v q) t ≡ a.embed (value (self_algebra r) (leaf_value r.zero v) t)

-- the term of each base assertion is embedded
abbrev pub BaseEmbedded : {F E : Type 0} → CommRing F → AlgebraOver F E → List (Assertion F) → Type 0
BaseEmbedded r a [] = ⊤
BaseEmbedded r a (Base t ∷ ts) = IsEmbedded r a t × BaseEmbedded r a ts
BaseEmbedded r a (Extension t ∷ ts) = BaseEmbedded r a ts

-- the term of each base assertion has neither leaves nor constants of the extension
abbrev pub BaseTermsAreBase : {F : Type 0} → List (Assertion F) → Type 0
BaseTermsAreBase [] = ⊤
BaseTermsAreBase (Base t ∷ ts) = IsBase t × BaseTermsAreBase ts
BaseTermsAreBase (Extension t ∷ ts) = BaseTermsAreBase ts

-- the report of such a check, where every term is evaluated over the extension
abbrev pub IsReportOver : {F E : Type 0} → CommRing F → AlgebraOver F E → (F → F → Bool) → (E → E → Bool) → Instance F → PermutationTrace E
    → Option ℕ → ConstraintReport → Type 0
IsReportOver r a eq ext_eq g p cap report = IsReportBy r eq (zero_over r a ext_eq g p) (PermutedMissing g p) g cap report
