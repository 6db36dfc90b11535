use Rattle.std.proofs.Common.{arith}
use Rattle.air_bench.proofs.Growing.{last_four}
use Rattle.air_bench.proofs.lists.with_newest.Goals as goal

pub insert_add-requires-clause-x_in : goal.insert_add-requires-clause-x_in
insert_add-requires-clause-x_in g c = c.args.sums.roots_in.here 2 0 (omega arith)

pub insert_add-requires-clause-y_in : goal.insert_add-requires-clause-y_in
insert_add-requires-clause-y_in g c = c.args.sums.roots_in.here 3 0 (omega arith)

pub moved_up-requires : goal.moved_up-requires
moved_up-requires g c = last_four c.insert_add.ensures.grown c.args.sums.roots_in c.in_ok-z.ensures.made.here
