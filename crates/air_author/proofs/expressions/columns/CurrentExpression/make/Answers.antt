use Rattle.air_author.proofs.expressions.columns.CurrentExpression.make.Goals as goal

pub make_found-requires-clause-found : goal.make_found-requires-clause-found
make_found-requires-clause-found g c = c.main_variable-found.ensures.found

pub make_found-requires-clause-none : goal.make_found-requires-clause-none
make_found-requires-clause-none g c = c.main_variable-found.ensures.none

pub returns : goal.returns
returns g c = c.make_found.ensures
