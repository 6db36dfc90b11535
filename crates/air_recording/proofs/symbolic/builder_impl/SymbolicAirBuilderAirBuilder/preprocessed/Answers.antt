use Rattle.air_recording.proofs.ShownVariables.{variables_stand, variables_end}
use Rattle.air_recording.proofs.symbolic.builder_impl.SymbolicAirBuilderAirBuilder.preprocessed.Goals as goal

pub returns-clause-current : goal.returns-clause-current
returns-clause-current g c = variables_stand c.args.self.now.entries.base.current

pub returns-clause-current_ends : goal.returns-clause-current_ends
returns-clause-current_ends g c = variables_end c.args.self.now.entries.base.current

pub returns-clause-next : goal.returns-clause-next
returns-clause-next g c = variables_stand c.args.self.now.entries.base.next

pub returns-clause-next_ends : goal.returns-clause-next_ends
returns-clause-next_ends g c = variables_end c.args.self.now.entries.base.next
