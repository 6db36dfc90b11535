use Rattle.std.proofs.Common.{◌∙◌}
use Rattle.air_json.proofs.Elements.{all_elements}
use Rattle.air_json.proofs.ext_leaf.elements_value.Goals as goal

pub returns : goal.returns
returns g c = c.from.ensures ∙ all_elements g.F.PrimeField64.residues _ c.args.elements.now c.loop-element.element-index c.loop-element-test.false c.loop-element.invariant
