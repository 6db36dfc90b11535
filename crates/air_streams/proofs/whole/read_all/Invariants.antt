use Rattle.std.proofs.Common.{◌≡◌, ◌-◌, ◌^◌, false, vec_len}
use Rattle.std.specs.Io.KnownBytes.{Consumes}
use Rattle.air_streams.proofs.whole.read_all.Given as goal

abbrev pub invariant-pulls : goal.invariant-pulls
invariant-pulls g l =
    let R = g.R.Source in
    record {
      so_far : Consumes (R.remaining l.initial.reader) (R.remaining l.reader) l.input.items;
      well : R.has_failed l.reader ≡ false;
    }

abbrev pub decreases-pulls : goal.decreases-pulls
decreases-pulls g l = 2 ^ 63 - vec_len l.input
