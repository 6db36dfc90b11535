-- Audits, and the answer to an input that is a trace of Fibonacci.
use Rattle.std.specs.Prelude.{◌≡◌, ◌⊎◌, ◌<◌, ◌==◌, ℕ, List, codes, Bool, Option, Some, None}
use Rattle.air_field.specs.Grid.{Grid, grid_of}
use Rattle.air_field.specs.Extension.{own_basis}
use Rattle.air_field.specs.Modular.{Modular, modular_ring}
use Rattle.air_field.specs.Modulo.{baby_bears}
use Rattle.air_field.specs.BabyBear.{BabyBear}
use Rattle.air_audit.specs.Theorem.{Instance, instance}
use Rattle.air_audit.specs.Audits.{IsAuditUnder, IsDegreePast, AuditRefusesUnder}
use Rattle.air_audit.specs.declared.audit.Audit.{Audit}
use Rattle.air_core.specs.declared.errors.AirError.{AirError}
use Rattle.example_fibonacci.specs.Fibonacci.{fibonacci_declaration}
use Rattle.air_program.specs.Parsing.{element_values}
use Rattle.air_program.specs.Texts.{TellsFound}
use Rattle.air_program.specs.Refusals.{AnswersRefusal}

-- two elements are equal if their canonical numbers are
abbrev pub equal_numbers : {F : Type 0} {p : ℕ} → Modular F p → F → F → Bool
equal_numbers m a b = m.value a == m.value b

-- the audit of an instance, under a cap and in a domain of weight w
abbrev pub IsCappedAudit : {F : Type 0} {p : ℕ} → Modular F p → Instance F → Option ℕ → ℕ → Audit F → Type 0
IsCappedAudit m = IsAuditUnder (modular_ring m) (equal_numbers m) own_basis

-- the errors of such an audit
abbrev pub CappedAuditRefuses : {F : Type 0} {p : ℕ} → Modular F p → Instance F → Option ℕ → ℕ → AirError → Type 0
CappedAuditRefuses m = AuditRefusesUnder (modular_ring m) (equal_numbers m)

-- ---- Fibonacci

-- Fibonacci, with public values, on a trace
abbrev pub fibonacci_instance : Grid BabyBear → List BabyBear → Instance BabyBear
fibonacci_instance main public = instance fibonacci_declaration main public

-- a recorded degree passes `usize`, in a domain whose weight isn't 0
abbrev pub PassesDegree : Instance BabyBear → Option ℕ → ℕ → Type 0
PassesDegree x cap w = (0 < w) × IsDegreePast (modular_ring baby_bears) (equal_numbers baby_bears) x cap w

-- the findings, or `DegreeOverflow` if a degree passes `usize`
abbrev pub AnswersGiven : Instance BabyBear → Option ℕ → ℕ → ℕ → List ℕ → Type 0
AnswersGiven x cap w status text =
    ((audit : Audit BabyBear) × IsCappedAudit baby_bears x cap w audit × TellsFound audit status text)
    ⊎ (PassesDegree x cap w × AnswersRefusal (codes "DegreeOverflow") status text)

-- `Syntax` if the input isn't in the grammar, otherwise the answer to its trace
abbrev pub IsAnswerTo : Option ℕ → ℕ → Option (List ℕ × List ℕ) → ℕ → List ℕ → Type 0
IsAnswerTo cap w None status text = AnswersRefusal (codes "Syntax") status text
IsAnswerTo cap w (Some p) status text =
    (public : List BabyBear) × (values : List BabyBear)
    × (element_values public ≡ p.0) × (element_values values ≡ p.1)
    × AnswersGiven (fibonacci_instance (grid_of 2 values) public) cap w status text
