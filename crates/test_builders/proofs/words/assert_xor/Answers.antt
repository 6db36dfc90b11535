use Rattle.test_builders.proofs.words.assert_xor.Goals as goal

pub returns : goal.returns
returns g c = g.met.AB.AirBuilder.laws.ready_kept _ _ c.xor_32_shift.ensures.keeps c.requires.ready
