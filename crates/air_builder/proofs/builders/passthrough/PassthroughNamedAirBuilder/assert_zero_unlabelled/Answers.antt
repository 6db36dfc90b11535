use Rattle.air_builder.specs.laws.LabelGrowth.{no_label_asked}
use Rattle.air_builder.proofs.builders.passthrough.PassthroughNamedAirBuilder.assert_zero_unlabelled.Goals as goal

pub returns-clause-label : goal.returns-clause-label
returns-clause-label g c = no_label_asked c.assert_zero.result c.assert_zero.ensures
