use Rattle.std.proofs.Common.{arith}
use Rattle.air_bench.proofs.lists.weigh_rounds.Goals as goal

pub poly_degree-requires-clause-here : goal.poly_degree-requires-clause-here
poly_degree-requires-clause-here g c = c.args.sums.now.roots_in.here 3 0 (omega arith)
