use Rattle.air_reason.proofs.InputLaws.{input_agrees, labelled_fault}
use Rattle.air_reason.proofs.laws.reasons_are_of_first_faults.Goals as goal

pub returns-clause-input : goal.returns-clause-input
returns-clause-input g c = (input_agrees g.F.PrimeField64.residues)

pub returns-clause-labelled : goal.returns-clause-labelled
returns-clause-labelled g c = (labelled_fault g.F.PrimeField64.residues)
