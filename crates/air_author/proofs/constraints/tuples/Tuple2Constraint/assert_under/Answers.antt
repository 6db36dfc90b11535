use Rattle.air_author.proofs.constraints.tuples.Tuple2Constraint.assert_under.Goals as goal

pub returns-clause-asserted : goal.returns-clause-asserted
returns-clause-asserted g c = c.assert_two.ensures.asserted

pub returns-clause-labelled : goal.returns-clause-labelled
returns-clause-labelled g c = c.assert_two.ensures.labelled
