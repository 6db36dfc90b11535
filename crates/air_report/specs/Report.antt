-- The report on a whole trace: where the declared terms aren't zero.
use Rattle.std.specs.Prelude.{◌≡◌, ℕ, ◌≤◌, ◌<◌, List, [], length, map, Bool, not, Option, None, Some, ◌⊎◌, ◌==◌, if◌then◌else◌}
use Rattle.std.specs.List.{filter, flat_map, range_with_len, enumerate_from}
use Rattle.air_field.specs.Ring.{CommRing, self_algebra}
use Rattle.air_field.specs.Term.{Leaf}
use Rattle.air_field.specs.Value.{value}
use Rattle.air_field.specs.Assignment.{Trace, row_assignment}
use Rattle.air_field.specs.Grid.{Grid}
use Rattle.air_builder.specs.Assertion.{Assertion, Base, Extension}
use Rattle.air_report.specs.declared.debug.failure.ConstraintFailure.{ConstraintFailure}

-- the value of an assertion's term, where s gives the values of the leaves
abbrev pub assertion_value : {F : Type 0} → CommRing F → (Leaf → F) → Assertion F → F
assertion_value r s (Base t) = value (self_algebra r) s t
assertion_value r s (Extension t) = value (self_algebra r) s t

-- every assertion of the list with its index, at each of the first h rows: by row, and then by index
abbrev pub all_places : {F : Type 0} → ℕ → List (Assertion F) → List (ℕ × (ℕ × Assertion F))
all_places h ts = flat_map (λ r. map (λ p. (r, p)) (enumerate_from 0 ts)) (range_with_len 0 h)

-- whether an assertion is zero at row i
abbrev pub zero_at : {F : Type 0} → CommRing F → (F → F → Bool) → Trace F → ℕ → Assertion F → Bool
zero_at r eq trace i t = eq (assertion_value r (row_assignment r trace i) t) r.zero

-- the row, and the index in the list
abbrev pub place : {F : Type 0} → ℕ × (ℕ × Assertion F) → ℕ × ℕ
place p = (p.0, p.1.0)

-- The report on the first h rows by a test of which assertions are zero at a row: all pairs of row and constraint index,
-- in order, where the test doesn't find zero.
abbrev pub report_by : {F : Type 0} → (ℕ → Assertion F → Bool) → List (Assertion F) → ℕ → List (ℕ × ℕ)
report_by zero ts h = map place (filter (λ p. not (zero p.0 p.1.1)) (all_places h ts))

-- The report on the first h rows: all pairs of row and constraint index, in order, where the term isn't zero.
abbrev pub report_of : {F : Type 0} → CommRing F → (F → F → Bool) → Trace F → List (Assertion F) → ℕ → List (ℕ × ℕ)
report_of r eq trace ts h = report_by (zero_at r eq trace) ts h

-- a failure's row and constraint index
abbrev pub failure_place : ConstraintFailure → ℕ × ℕ
failure_place f = (f.row, f.constraint)

-- a trace without preprocessed rows and periodic columns
abbrev pub plain_trace : {F : Type 0} → Grid F → List F → Trace F
plain_trace g public = record { main_trace = g; preprocessed_trace = record { width = 0; rows = [] }; periodic_columns = []; public_values = public }

-- n failures reach the cap
abbrev pub IsReached : Option ℕ → ℕ → Type 0
IsReached None n = ⊥
IsReached (Some cap) n = cap ≤ n

-- m is the least number of rows whose report by the test reaches the cap, or h if there is none
pub record IsRowsShownBy {F : Type 0} (zero : ℕ → Assertion F → Bool) (ts : List (Assertion F)) (cap : Option ℕ) (h m : ℕ) : Type 0 where
  pub within : m ≤ h
  pub enough : (m ≡ h) ⊎ IsReached cap (length (report_by zero ts m))
  pub least : (k : ℕ) → k < m → IsReached cap (length (report_by zero ts k)) → ⊥

-- m is the least number of rows whose report reaches the cap, or h if there is none
abbrev pub IsRowsShown : {F : Type 0} → CommRing F → (F → F → Bool) → Trace F → List (Assertion F) → Option ℕ → ℕ → ℕ → Type 0
IsRowsShown r eq trace ts cap h m = IsRowsShownBy (zero_at r eq trace) ts cap h m

-- the number of constraints of row 0; 0 if no row ran
abbrev pub constraints_counted : {F : Type 0} → List (Assertion F) → ℕ → ℕ
constraints_counted ts m = if m == 0 then 0 else length ts
