use Rattle.std.proofs.Common.{drop}
use Rattle.air_symbolic.proofs.SimplifiedLists.{IsMultiplying}
use Rattle.air_symbolic.proofs.pools.pool.ExprPool.product.Given as goal

abbrev pub invariant-loop-x : goal.invariant-loop-x
invariant-loop-x g l =
    IsMultiplying g.A.F.Field.ring g.A.F.PartialEq.eq g.A.SymLeaf.reads g.A.SymLeaf.grows l.initial.self l.self l.xs l.total (drop l.x-index l.rest)
