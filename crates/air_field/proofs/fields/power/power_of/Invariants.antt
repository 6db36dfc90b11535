use Rattle.std.proofs.Common.{◌≡◌}
use Rattle.air_field.specs.Powers.{power}
use Rattle.air_field.proofs.fields.power.power_of.Given as goal

abbrev pub invariant-loop-left : goal.invariant-loop-left
invariant-loop-left g l =
    g.F.Field.ring.mul l.power (power g.F.Field.ring l.square l.left) ≡ power g.F.Field.ring l.fn.a l.fn.k

abbrev pub decreases-loop-left : goal.decreases-loop-left
decreases-loop-left g l = l.left
