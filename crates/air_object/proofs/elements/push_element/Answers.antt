use Rattle.std.proofs.Common.{sym}
use Rattle.serde_json.specs.View.{view}
use Rattle.air_json.specs.BaseLeaves.{element_at}
use Rattle.air_object.proofs.PartLemmas.{more_read}
use Rattle.air_object.proofs.elements.push_element.Goals as goal

pub returns : goal.returns
returns g c = rw c.in_ok-push.ensures.items (more_read (element_at g.F.PrimeField64.residues 0) c.args.before.items (view c.args.item.now) c.in_ok-element.element (sym c.in_ok-element.ensures))
