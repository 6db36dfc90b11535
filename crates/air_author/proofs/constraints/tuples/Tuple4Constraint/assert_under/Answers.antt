use Rattle.air_author.proofs.constraints.tuples.Tuple4Constraint.assert_under.Goals as goal

pub returns-clause-asserted : goal.returns-clause-asserted
returns-clause-asserted g c = c.assert_four.ensures.asserted

pub returns-clause-labelled : goal.returns-clause-labelled
returns-clause-labelled g c = c.assert_four.ensures.labelled
