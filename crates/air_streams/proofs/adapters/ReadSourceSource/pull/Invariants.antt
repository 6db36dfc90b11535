use Rattle.std.proofs.Common.{◌≡◌}
use Rattle.std.specs.Io.KnownBytes.{Keeps}
use Rattle.air_streams.proofs.adapters.ReadSourceSource.pull.Given as goal

abbrev pub invariant-loop : goal.invariant-loop
invariant-loop g l = record {
  kept : Keeps (g.R.Read.remaining l.fn.self.inner) (g.R.Read.remaining l.self.inner);
  well : l.self.fault ≡ l.fn.self.fault;
}
