use Rattle.std.proofs.Common.{◌≡◌, ◌-◌, ◌++◌, length, take, map}
use Rattle.air_field.specs.Ring.{image}
use Rattle.air_gadgets.specs.Bits.{digits_of}
use Rattle.air_gadgets.proofs.utils.bits.bits_le.Given as goal

abbrev pub invariant-loop-i : goal.invariant-loop-i
invariant-loop-i g l =
    (length l.bits ≡ g.row.N) × (map (image g.F.Field.ring) (digits_of 2 g.row.N l.fn.val) ≡ take l.i l.bits ++ map (image g.F.Field.ring) (digits_of 2 (g.row.N - l.i) l.left))
