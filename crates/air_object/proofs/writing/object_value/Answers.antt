use Rattle.serde_json.specs.View.{view}
use Rattle.air_object.specs.Writing.{seen_parts}
use Rattle.air_object.proofs.ReadBack.{input_back, fault_back}
use Rattle.air_object.proofs.writing.object_value.Goals as goal

pub returns-clause-read : goal.returns-clause-read
returns-clause-read g c = λ input s.
    input_back g.F.PrimeField64.residues (view c.in_ok-object.object) (seen_parts c.args.parts.now) input c.in_ok-object.ensures.written s

pub returns-clause-fault : goal.returns-clause-fault
returns-clause-fault g c = λ e h.
    fault_back g.F.PrimeField64.residues (view c.in_ok-object.object) (seen_parts c.args.parts.now) e c.in_ok-object.ensures.written h
