use Rattle.std.proofs.Common.{arith}
use Rattle.air_json.proofs.written_nodes.node_value.Goals as goal

pub returns-in_ok-two_value-in-Add-clause-written : goal.returns-in_ok-two_value-in-Add-clause-written
returns-in_ok-two_value-in-Add-clause-written g c =
    rw c.in-Add.is ((c.place-i.result, c.place-i.ensures), (c.place-j.result, c.place-j.ensures), c.in_ok-two_value-in-Add.ensures)

pub returns-in_ok-two_value-in-Sub-clause-written : goal.returns-in_ok-two_value-in-Sub-clause-written
returns-in_ok-two_value-in-Sub-clause-written g c =
    rw c.in-Sub.is ((c.place-i-in-Sub.result, c.place-i-in-Sub.ensures), (c.place-j-in-Sub.result, c.place-j-in-Sub.ensures), c.in_ok-two_value-in-Sub.ensures)

pub returns-in_ok-one_value-in-Neg-clause-written : goal.returns-in_ok-one_value-in-Neg-clause-written
returns-in_ok-one_value-in-Neg-clause-written g c = rw c.in-Neg.is ((c.place.result, c.place.ensures), c.in_ok-one_value-in-Neg.ensures)

pub returns-in_ok-two_value-in-Mul-clause-written : goal.returns-in_ok-two_value-in-Mul-clause-written
returns-in_ok-two_value-in-Mul-clause-written g c =
    rw c.in-Mul.is (((c.place-i-in-Mul.result, c.place-i-in-Mul.ensures), (c.place-j-in-Mul.result, c.place-j-in-Mul.ensures), c.in_ok-two_value-in-Mul.ensures), omega arith)
