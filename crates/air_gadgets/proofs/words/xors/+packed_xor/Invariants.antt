use Rattle.std.proofs.Common.{length}
use Rattle.air_gadgets.proofs.words.xors.+packed_xor.Given as goal

abbrev pub decreases-packed_xor : goal.decreases-packed_xor
decreases-packed_xor g l = length l.b.now
