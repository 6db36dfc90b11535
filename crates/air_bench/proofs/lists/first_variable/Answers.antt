use Rattle.air_bench.proofs.Growing.{one_node}
use Rattle.air_bench.proofs.lists.first_variable.Goals as goal

pub invariant_of-result : goal.invariant_of-result
invariant_of-result g c = record { roots_in = one_node _ _ (c.leaf-2.ensures.grown.pool c.new-pool.ensures.pool) c.in_ok-y.ensures.made.here }
