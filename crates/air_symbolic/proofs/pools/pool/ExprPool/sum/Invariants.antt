use Rattle.std.proofs.Common.{drop, map}
use Rattle.air_symbolic.specs.Pools.{tree_at}
use Rattle.air_symbolic.specs.SimplifiedLists.{IsJoined, SumStep}
use Rattle.air_symbolic.proofs.SimplifiedLists.{IsJoining, SumRest}
use Rattle.air_symbolic.proofs.pools.pool.ExprPool.sum.Given as goal

abbrev pub invariant-loop-x : goal.invariant-loop-x
invariant-loop-x g l =
    IsJoining g.A.SymLeaf.reads g.A.SymLeaf.grows
    (SumRest g.A.F.Field.ring g.A.F.PartialEq.eq g.A.SymLeaf.reads)
    (λ v u. IsJoined (g.A.SymLeaf.reads u) g.A.F.Field.ring.zero (SumStep g.A.F.Field.ring g.A.F.PartialEq.eq (g.A.SymLeaf.reads u)) (map (tree_at l.initial.self) l.xs) v)
    l.initial.self l.self l.total (drop l.x-index l.rest)
