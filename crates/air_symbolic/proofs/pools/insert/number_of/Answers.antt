use Rattle.std.proofs.Common.{◌<◌, length, All, arith, subst}
use Rattle.std.proofs.lemmas.Option.{slice_get_within}
use Rattle.air_symbolic.specs.Numbering.{with_degree}
use Rattle.air_symbolic.proofs.StatedDegrees.{operands-with_degree}
use Rattle.air_symbolic.proofs.pools.insert.number_of.Goals as goal

pub returns-then-names_newest : goal.returns-then-names_newest
returns-then-names_newest g c = λ i d e.
    let node = with_degree c.args.node.now d in
    let within : i < length c.args.nodes.now = slice_get_within c.args.nodes.now i node e in
    c.names_newest.ensures c.if-names_newest.true i (omega (arith, c.len.ensures, within)) (subst (All (λ x. x < i)) (operands-with_degree c.args.node.now d) (c.requires.older i node e))
