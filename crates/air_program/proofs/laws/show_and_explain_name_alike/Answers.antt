use Rattle.air_program.proofs.AnswerLaws.{same_pool, same_names}
use Rattle.air_program.proofs.laws.show_and_explain_name_alike.Goals as goal

pub returns-clause-one_pool : goal.returns-clause-one_pool
returns-clause-one_pool g c = (same_pool g.F.PrimeField64.residues)

pub returns-clause-one_name : goal.returns-clause-one_name
returns-clause-one_name g c = (same_names g.F.PrimeField64.residues)
