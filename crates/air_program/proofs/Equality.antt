-- A field's own equality test and ring are those of its residues.
use Rattle.std.proofs.Common.{◌≡◌, ℕ, Bool, Option, subst}
use Rattle.std.specs.Bool.{Decides}
use Rattle.std.proofs.lemmas.Bool.Decides.{same_from_decides}
use Rattle.air_field.specs.Extension.{Basis}
use Rattle.air_field.specs.Ring.{CommRing}
use Rattle.air_field.specs.Modular.{Modular, modular_ring}
use Rattle.air_field.specs.laws.Modular.{equal_is}
use Rattle.air_audit.specs.Theorem.{Instance}
use Rattle.air_audit.specs.Audits.{IsAuditUnder, AuditRefusesUnder}
use Rattle.air_audit.specs.declared.audit.Audit.{Audit}
use Rattle.air_core.specs.declared.errors.AirError.{AirError}
use Rattle.air_program.specs.Answer.{equal_numbers, CappedAuditRefuses}

-- two tests with the same answers are equal
same_test : {F : Type 0} (f g : F → F → Bool) → ((a b : F) → f a b ≡ g a b) → f ≡ g
same_test f g h = λ i a b. h a b i

module _ {F : Type 0} {order : ℕ} (modular : Modular F order) (r : CommRing F) (eq : F → F → Bool) (ring_is : r ≡ modular_ring modular) (eq_is : (a b : F) → Decides (eq a b) (a ≡ b)) where
  eq_same : eq ≡ equal_numbers modular
  eq_same = same_test eq (equal_numbers modular) (λ a b. same_from_decides (eq a b) (equal_numbers modular a b) (eq_is a b) (equal_is modular a b))

  -- so an audit with the field's test and ring is an audit with the residues', with the same refusals
  pub audit_of_residues : (basis : Basis F F) (x : Instance F) (cap : Option ℕ) (w : ℕ) (audit : Audit F) → IsAuditUnder r eq basis x cap w audit → IsAuditUnder (modular_ring modular) (equal_numbers modular) basis x cap w audit
  audit_of_residues basis x cap w audit h =
      subst (λ e. IsAuditUnder (modular_ring modular) e basis x cap w audit) eq_same
      (subst (λ q. IsAuditUnder q eq basis x cap w audit) ring_is h)

  pub refusal_of_residues : (x : Instance F) (cap : Option ℕ) (w : ℕ) (e : AirError) → AuditRefusesUnder r eq x cap w e → CappedAuditRefuses modular x cap w e
  refusal_of_residues x cap w e h =
      subst (λ t. AuditRefusesUnder (modular_ring modular) t x cap w e) eq_same
      (subst (λ q. AuditRefusesUnder q eq x cap w e) ring_is h)
