use Rattle.std.proofs.Common.{◌≡◌, ℕ, Some, IfOk, string_bytes, subst}
use Rattle.std.specs.Prelude.{option_map}
use Rattle.serde_json.specs.View.{view}
use Rattle.air_reason.specs.Nodes.{list_text}
use Rattle.air_reason.proofs.Lists.{list_told, faults_told}
use Rattle.air_reason.proofs.nodes.ConstraintForm.reason.Goals as goal

pub returns-in-Ok : goal.returns-in-Ok
returns-in-Ok g c = list_told g.F.PrimeField64.residues (view c.args.value.now) _ c.in-Ok.ensures.root

pub returns : goal.returns
returns g c =
    let d = view c.args.value.now in
    faults_told g.F.PrimeField64.residues d c.in-Err.fault c.in-Err.ensures.fault c.fault_text.result c.fault_text.ensures.fault
    (subst (λ (n : ℕ). IfOk c.fault_text.result (λ o. option_map string_bytes o ≡ Some (list_text n d c.in-Err.fault))) c.ORDER_U64.ensures c.fault_text.ensures.told)
