use Rattle.air_draft.proofs.factors.make_factor.Goals as goal

pub returns-in-Different-clause-refused : goal.returns-in-Different-clause-refused
returns-in-Different-clause-refused g c = rw c.in-Different.is c.difference_of.ensures.refused
