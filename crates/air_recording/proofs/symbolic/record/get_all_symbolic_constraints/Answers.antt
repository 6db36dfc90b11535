use Rattle.air_recording.proofs.symbolic.record.get_all_symbolic_constraints.Goals as goal

pub returns-clause-ext : goal.returns-clause-ext
returns-clause-ext g c = rw (c.into_recorded.ensures.pool, c.into_recorded.ensures.ext) c.in_ok-builder.ensures.ext
