use Rattle.air_print.proofs.Walks.{Walk, above}
use Rattle.air_print.proofs.reading.reads.Given as goal

-- the expressions found so far wait, or were visited
abbrev pub invariant-loop-id : goal.invariant-loop-id
invariant-loop-id g l = Walk l.pool.nodes l.fn.root l.waiting.keys l.numbers.items

abbrev pub decreases-loop-id : goal.decreases-loop-id
decreases-loop-id g l = above l.waiting.keys
