use Rattle.serde_json.specs.View.{view}
use Rattle.air_object.proofs.parts.read_element.Goals as goal

pub returns-clause-ok : goal.returns-clause-ok
returns-clause-ok g c = (view c.in_ok-item.item, c.in_ok-item.ensures.ok, c.with_element.ensures)
