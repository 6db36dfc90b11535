use Rattle.std.proofs.Common.{◌≡◌, take, map}
use Rattle.serde_json.specs.View.{view}
use Rattle.air_json.specs.Spelling.{number_data}
use Rattle.air_json.proofs.ext_leaf.elements_value.Given as goal

abbrev pub invariant-loop-element : goal.invariant-loop-element
invariant-loop-element g l = map view l.items.items ≡ map (λ x. number_data (g.F.PrimeField64.residues.value x)) (take l.element-index l.elements)
