use Rattle.std.proofs.Common.{◌≡◌, ◌-◌, ◌≤◌, false, length, take}
use Rattle.std.specs.Io.KnownBytes.{Appends}
use Rattle.air_streams.proofs.whole.write_all.Given as goal

abbrev pub invariant-pieces : goal.invariant-pieces
invariant-pieces g l =
    let W = g.W.Sink in
    record {
      so_far : Appends (W.contents l.initial.writer) (W.contents l.writer) (take l.done l.text);
      inside : l.done ≤ length l.text;
      well : W.has_failed l.writer ≡ false;
    }

abbrev pub decreases-pieces : goal.decreases-pieces
decreases-pieces g l = length l.text - l.done
