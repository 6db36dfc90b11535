-- The result and the errors of an audit under a cap. The theorem without a cap is in Theorem.
use Rattle.std.specs.Prelude.{◌≡◌, ◌⊎◌, ℕ, ◌≤◌, ◌<◌, ◌^◌, Bool, Option}
use Rattle.air_field.specs.Ring.{CommRing}
use Rattle.air_field.specs.Extension.{Basis}
use Rattle.air_core.specs.declared.errors.AirError.{AirError}
use Rattle.air_core.specs.declared.errors.AirError.TheVariants.{DegreeOverflow}
use Rattle.air_report.specs.Checks.{IsReport, CheckRefuses}
use Rattle.air_report.specs.declared.checks.report.ConstraintReport.{ConstraintReport}
use Rattle.air_audit.specs.Theorem.{Instance, row_count, NamesOwnEntries, RecordsEach, MeansEach, terms_in, domain, degree_in, IsLeast, BoundsDegrees, BoundsPolynomials, RecordingRefuses, IsRecordable, DegreeOverflows}
use Rattle.air_audit.specs.declared.audit.Audit.{Audit}

-- The audit theorem under a cap: all that `audit_air` ensures, with a report of the rows and the boundary values that
-- the cap shows.
pub record IsAuditUnder {F : Type 0} (r : CommRing F) (eq : F → F → Bool) (basis : Basis F F) (x : Instance F) (cap : Option ℕ) (w : ℕ) (audit : Audit F) : Type 0 where
  pub there : NamesOwnEntries x.air
  pub recorded : RecordsEach r basis x.air audit
  pub pool : MeansEach r basis x.air audit.recorded
  pub report : IsReport r eq x cap audit.report
  pub degree : audit.degree ≡ degree_in w x (terms_in basis audit.recorded)
  pub in_range : degree_in w x (terms_in basis audit.recorded) < 2 ^ 64
  pub bounded : 2 ≤ row_count x → BoundsPolynomials r (domain w x) (terms_in basis audit.recorded) audit.degree
  pub least : 3 ≤ row_count x → IsLeast (BoundsDegrees (domain w x) (terms_in basis audit.recorded)) audit.degree

-- The check under the cap succeeded, and a degree passes `usize`.
pub record IsDegreePast {F : Type 0} (r : CommRing F) (eq : F → F → Bool) (x : Instance F) (cap : Option ℕ) (w : ℕ) : Type 0 where
  pub report : ConstraintReport
  pub checked : IsReport r eq x cap report
  pub passes : DegreeOverflows r w x

-- The errors of an audit under a cap: those of the recording; if the recording succeeds, those of the check under the
-- cap; and, if the check succeeds too, a degree past `usize`.
abbrev pub AuditRefusesUnder : {F : Type 0} → CommRing F → (F → F → Bool) → Instance F → Option ℕ → ℕ → AirError → Type 0
AuditRefusesUnder r eq x cap w e =
    RecordingRefuses x.air e
    ⊎ (IsRecordable r x.air
    × (CheckRefuses r eq x cap e ⊎ ((e ≡ DegreeOverflow) × IsDegreePast r eq x cap w)))
