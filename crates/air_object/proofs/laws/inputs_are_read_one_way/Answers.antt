use Rattle.air_object.proofs.Gains.{one_roots}
use Rattle.air_object.proofs.InputLaws.{one_value, no_fault, one_fault, first_fault}
use Rattle.air_object.proofs.laws.inputs_are_read_one_way.Goals as goal

pub returns-clause-one_value : goal.returns-clause-one_value
returns-clause-one_value g c = (one_value g.F.PrimeField64.residues)

pub returns-clause-no_fault : goal.returns-clause-no_fault
returns-clause-no_fault g c = (no_fault g.F.PrimeField64.residues)

pub returns-clause-one_fault : goal.returns-clause-one_fault
returns-clause-one_fault g c = (one_fault g.F.PrimeField64.residues)

pub returns-clause-one_pool : goal.returns-clause-one_pool
returns-clause-one_pool g c = (one_roots g.F.PrimeField64.residues)

pub returns-clause-first_fault : goal.returns-clause-first_fault
returns-clause-first_fault g c = (first_fault g.F.PrimeField64.residues)
