use Rattle.air_audit.proofs.recorded_airs.record_these.Goals as goal

pub returns-clause-ready : goal.returns-clause-ready
returns-clause-ready g c = g.met.AB.AirBuilder.laws.ready_kept _ _ c.assert_these.ensures.asserted.asserted.keeps c.requires.ready
