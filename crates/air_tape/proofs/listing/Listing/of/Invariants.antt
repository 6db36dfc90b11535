use Rattle.std.proofs.Common.{◌≡◌, length}
use Rattle.air_tape.specs.Tapes.{Told}
use Rattle.air_tape.proofs.listing.Listing.of.Given as goal

abbrev pub invariant-loop-i : goal.invariant-loop-i
invariant-loop-i g l = (length l.items.items ≡ l.i) × Told l.tape l.items.items l.shown.items
