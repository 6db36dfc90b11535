use Rattle.std.proofs.Common.{map}
use Rattle.serde_json.specs.View.{view}
use Rattle.air_object.specs.laws.Writing.{constraints_spell}
use Rattle.air_object.proofs.writing.constraints_value.Goals as goal

pub returns-clause-spelt : goal.returns-clause-spelt
returns-clause-spelt g c = rw c.from.ensures (constraints_spell g.F.PrimeField64.residues c.args.pool.now (map view c.in_ok-lists.lists.items) c.args.roots.now c.in_ok-lists.ensures.written)
