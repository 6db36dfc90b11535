use Rattle.air_program.proofs.AnswerLaws.{flat_answers, explain_answers, explained_too, audited_too}
use Rattle.air_program.proofs.laws.flat_and_explain_refuse_alike.Goals as goal

pub returns-clause-flat : goal.returns-clause-flat
returns-clause-flat g c = (flat_answers g.F.PrimeField64.residues)

pub returns-clause-explain : goal.returns-clause-explain
returns-clause-explain g c = (explain_answers g.F.PrimeField64.residues)

pub returns-clause-explained : goal.returns-clause-explained
returns-clause-explained g c = (explained_too g.F.PrimeField64.residues)

pub returns-clause-audited : goal.returns-clause-audited
returns-clause-audited g c = (audited_too g.F.PrimeField64.residues)
