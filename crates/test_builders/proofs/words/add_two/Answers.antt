use Rattle.test_builders.proofs.words.add_two.Goals as goal

pub returns : goal.returns
returns g c = g.met.AB.AirBuilder.laws.ready_kept _ _ c.add2.ensures.keeps c.requires.ready
