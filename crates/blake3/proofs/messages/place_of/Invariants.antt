use Rattle.std.proofs.Common.{◌≡◌, ◌<◌, ◌-◌}
use Rattle.blake3.specs.Compression.{place_in}
use Rattle.blake3.proofs.messages.place_of.Given as goal

-- the place is below 16, and the remaining rounds take it where all rounds take `index`
abbrev pub invariant-loop-done : goal.invariant-loop-done
invariant-loop-done l = record {
  within : l.place < 16;
  same : place_in (l.round - l.done) l.place ≡ place_in l.round l.index;
}
