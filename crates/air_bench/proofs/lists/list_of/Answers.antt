use Rattle.std.proofs.Common.{arith}
use Rattle.air_bench.proofs.lists.list_of.Goals as goal

pub to_flat_value-requires-clause-here : goal.to_flat_value-requires-clause-here
to_flat_value-requires-clause-here g c = c.in_ok-sums.sums.roots_in.here 3 0 (omega arith)
