use Rattle.std.proofs.lemmas.Result.{IfOk-weaker, IfErr-weaker}
use Rattle.air_field.specs.Extension.{own_basis}
use Rattle.air_program.proofs.Equality.{audit_of_residues, refusal_of_residues}
use Rattle.air_program.proofs.answer.audit_on.Goals as goal

pub returns-clause-audited : goal.returns-clause-audited
returns-clause-audited g c =
    rw (← c.deref.ensures.value) (IfOk-weaker c.audit_air_with_cap.result _ _
    (λ audit h. audit_of_residues g.F.PrimeField64.residues g.F.Field.ring g.F.PartialEq.eq g.met.F.PrimeField64.ring_is g.met.F.Field.eq_is own_basis _ _ _ audit h) c.audit_air_with_cap.ensures.audited)

pub returns-clause-refused : goal.returns-clause-refused
returns-clause-refused g c =
    rw (← c.deref.ensures.value) (IfErr-weaker c.audit_air_with_cap.result _ _
    (λ e h. refusal_of_residues g.F.PrimeField64.residues g.F.Field.ring g.F.PartialEq.eq g.met.F.PrimeField64.ring_is g.met.F.Field.eq_is _ _ _ e h) c.audit_air_with_cap.ensures.refused)
