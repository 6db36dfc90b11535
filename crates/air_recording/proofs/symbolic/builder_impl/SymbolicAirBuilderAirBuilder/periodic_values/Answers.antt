use Rattle.air_recording.proofs.ShownVariables.{variables_stand, variables_end}
use Rattle.air_recording.proofs.symbolic.builder_impl.SymbolicAirBuilderAirBuilder.periodic_values.Goals as goal

pub returns-clause-reads_as : goal.returns-clause-reads_as
returns-clause-reads_as g c = rw c.as_slice.ensures.value (variables_stand c.args.self.now.entries.base.periodic)

pub returns-clause-ends : goal.returns-clause-ends
returns-clause-ends g c = rw c.as_slice.ensures.value (variables_end c.args.self.now.entries.base.periodic)
