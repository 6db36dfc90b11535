use Rattle.std.proofs.Common.{drop}
use Rattle.air_field.specs.Term.{mul_term}
use Rattle.air_field.proofs.JoinLaws.{IsJoining}
use Rattle.air_field.proofs.rings.algebra.Algebra.product.Given as goal

abbrev pub invariant-loop-x : goal.invariant-loop-x
invariant-loop-x g l =
    IsJoining g.Self.Algebra.has g.Self.Algebra.means g.Self.Algebra.extends mul_term g.F.Field.ONE l.initial.self l.self l.xs l.total (drop l.x-index l.rest)
