-- The audit of an input that is a JSON object, and the answer to the word `flat`.
use Rattle.std.specs.Prelude.{◌⊎◌, ℕ, List, Vec, String}
use Rattle.std.specs.Global.{Global}
use Rattle.serde_json.specs.Data.{Data}
use Rattle.air_field.specs.Modular.{Modular}
use Rattle.air_core.specs.declared.errors.AirError.{AirError}
use Rattle.air_symbolic.specs.ExtLeaves.{BaseNodes}
use Rattle.air_builder.specs.Declaration.{declaration_of}
use Rattle.air_builder.specs.declared.airs.beside.Beside.{Beside}
use Rattle.air_audit.specs.FlatAirs.{zero_at_roots}
use Rattle.air_audit.specs.Theorem.{Instance, instance}
use Rattle.air_audit.specs.declared.audit.Audit.{Audit}
use Rattle.air_object.specs.Input.{SpellsInput, HasInputFault}
use Rattle.air_object.specs.declared.input.FlatInput.{FlatInput}
use Rattle.air_object.specs.declared.input.Trial.{Trial}
use Rattle.air_program.specs.Answer.{IsCappedAudit, CappedAuditRefuses}
use Rattle.air_program.specs.Refusals.{AnswersRefusal, air_name}
use Rattle.air_program.specs.Texts.{TellsFound}

-- an AIR's parts and what it is audited on, as the input that they are made of
abbrev pub input_of : {F : Type 0} → BaseNodes F → Vec ℕ Global → Vec (String Global) Global → Beside F → Trial F → FlatInput F
input_of pool roots labels beside trial = record {
  constraints = record { pool = pool; roots = roots; labels = labels };
  beside = beside;
  trial = trial;
}

-- the AIR that declares that each constraint is zero, and what the input has beside these, on the input's trace
abbrev pub flat_instance : {F : Type 0} → FlatInput F → Instance F
flat_instance i =
    instance (declaration_of (zero_at_roots i.constraints.pool i.constraints.roots.items) i.beside) i.trial.main i.trial.public_values.items

module _ {F : Type 0} {p : ℕ} (m : Modular F p) where
  -- The value spells an input, and this is its audit.
  pub record AuditsValue (d : Data) (input : FlatInput F) (audit : Audit F) : Type 0 where
    pub spelt : SpellsInput m d input
    pub audited : IsCappedAudit m (flat_instance input) input.trial.cap input.trial.transition_weight audit

  -- the errors of an input's audit
  abbrev pub AuditRefusesInput : FlatInput F → AirError → Type 0
  AuditRefusesInput input = CappedAuditRefuses m (flat_instance input) input.trial.cap input.trial.transition_weight

  -- the first error: of reading the members, then of the matrices, and if the value spells an input, of the audit
  abbrev pub RefusesValue : Data → AirError → Type 0
  RefusesValue d e =
      HasInputFault m d e
      ⊎ ((input : FlatInput F) × SpellsInput m d input × AuditRefusesInput input e)

  -- the answer by `tells` to the input that the value spells and its audit, or by `refuses` to the first error
  abbrev pub AnswersAudit : (FlatInput F → Audit F → ℕ → List ℕ → Type 0) → (Data → AirError → ℕ → List ℕ → Type 0) → Data → ℕ → List ℕ → Type 0
  AnswersAudit tells refuses d status text =
      ((input : FlatInput F) × (audit : Audit F) × AuditsValue d input audit × tells input audit status text)
      ⊎ ((e : AirError) × RefusesValue d e × refuses d e status text)

-- what the audit found, or the name of the first error
abbrev pub AuditedIn : (F : Type 0) (p : ℕ) → Modular F p → Data → ℕ → List ℕ → Type 0
AuditedIn F p m = AnswersAudit m (λ input. TellsFound) (λ d e. AnswersRefusal (air_name e))
