use Rattle.std.proofs.Common.{ap, ◌∙◌}
use Rattle.air_field.specs.Ring.{image}
use Rattle.air_field.specs.laws.Modular.{image-class}
use Rattle.air_json.proofs.base_leaf.class_of.Goals as goal

pub returns : goal.returns
returns g c = c.from_u64.ensures ∙ (ap (λ r. image r c.args.number) g.met.F.PrimeField64.ring_is ∙ image-class g.F.PrimeField64.residues c.args.number)
