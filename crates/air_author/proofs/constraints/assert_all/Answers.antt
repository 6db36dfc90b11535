use Rattle.air_builder.specs.laws.Batches.{evaluates}
use Rattle.air_author.proofs.constraints.assert_all.Goals as goal

pub returns-clause-evaluated : goal.returns-clause-evaluated
returns-clause-evaluated g c = evaluates c.assert_these.result c.assert_these.ensures.asserted
