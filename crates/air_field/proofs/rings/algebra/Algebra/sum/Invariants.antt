use Rattle.std.proofs.Common.{drop}
use Rattle.air_field.specs.Term.{add_term}
use Rattle.air_field.proofs.JoinLaws.{IsJoining}
use Rattle.air_field.proofs.rings.algebra.Algebra.sum.Given as goal

abbrev pub invariant-loop-x : goal.invariant-loop-x
invariant-loop-x g l =
    IsJoining g.Self.Algebra.has g.Self.Algebra.means g.Self.Algebra.extends add_term g.F.Field.ZERO l.initial.self l.self l.xs l.total (drop l.x-index l.rest)
