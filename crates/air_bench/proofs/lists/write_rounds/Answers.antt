use Rattle.std.proofs.Common.{arith}
use Rattle.air_bench.proofs.lists.write_rounds.Goals as goal

pub to_flat_value-requires-clause-here : goal.to_flat_value-requires-clause-here
to_flat_value-requires-clause-here g c = c.args.sums.now.roots_in.here 3 0 (omega arith)
