use Rattle.std.proofs.Common.{◌≡◌, drop}
use Rattle.air_gadgets.specs.laws.Bits.{xors_from}
use Rattle.air_gadgets.proofs.utils.bits.checked_xor.Given as goal

abbrev pub invariant-loop-x : goal.invariant-loop-x
invariant-loop-x g l = xors_from g.F.Field.ring l.total (drop l.x-index l.xs) ≡ xors_from g.F.Field.ring g.F.Field.ZERO l.xs
