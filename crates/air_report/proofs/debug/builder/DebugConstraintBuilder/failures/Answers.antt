use Rattle.air_report.proofs.debug.builder.DebugConstraintBuilder.failures.Goals as goal

pub returns : goal.returns
returns g c = c.as_slice.ensures.value
