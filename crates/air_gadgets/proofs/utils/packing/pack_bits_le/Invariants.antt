use Rattle.std.proofs.Common.{◌<◌, length}
use Rattle.air_gadgets.proofs.PackingLaws.{IsPacking}
use Rattle.air_gadgets.proofs.utils.packing.pack_bits_le.Given as goal

abbrev pub invariant-loop-left : goal.invariant-loop-left
invariant-loop-left g l =
    (l.left < length l.bits) × IsPacking g.R.Algebra.has g.R.Algebra.means g.R.Algebra.extends l.fn.ring l.ring l.bits l.left l.total

abbrev pub decreases-loop-left : goal.decreases-loop-left
decreases-loop-left g l = l.left
