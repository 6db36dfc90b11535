use Rattle.std.proofs.Common.{refl}
use Rattle.serde_json.specs.View.{view}
use Rattle.air_object.specs.Parts.{ArePartsOf}
use Rattle.std.proofs.lemmas.Result.{IfOk-weaker, IfErr-weaker}
use Rattle.air_object.proofs.input.flat_input_from.Goals as goal

pub returns-clause-read : goal.returns-clause-read
returns-clause-read g c =
    let d = view c.args.value.now in
    let parts : ArePartsOf g.F.PrimeField64.residues d d c.elements_at-main.result c.constraints_of-constraints.result = record { others = λ name n k. refl; main = c.elements_at-main.ensures; constraints = c.constraints_of-constraints.ensures } in
    IfOk-weaker c.input_from.result _ _ (λ input h. h d parts) c.input_from.ensures.read

pub returns-clause-refused : goal.returns-clause-refused
returns-clause-refused g c =
    let d = view c.args.value.now in
    let parts : ArePartsOf g.F.PrimeField64.residues d d c.elements_at-main.result c.constraints_of-constraints.result = record { others = λ name n k. refl; main = c.elements_at-main.ensures; constraints = c.constraints_of-constraints.ensures } in
    IfErr-weaker c.input_from.result _ _ (λ e h n. h n d parts) c.input_from.ensures.refused
