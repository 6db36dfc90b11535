use Rattle.std.proofs.Common.{Some, ◌≡◌, subst}
use Rattle.std.specs.List.{slice_get}
use Rattle.air_symbolic.proofs.Tables.{pool-seen, IsNode-seen}
use Rattle.air_symbolic.proofs.pools.pool.ExprPool.node.Goals as goal

pub returns : goal.returns
returns g c =
    let p = c.args.self.now in
    let table = c.self.inside in
    IsNode-seen (g.A.SymLeaf.reads p.base) p table.base table.nodes c.args.id c.get.result.now c.self.view_is (pool-seen g.A.SymLeaf.reads p _ _ c.self.view_is c.self.invariant c.requires.owed).nodes
    (subst (λ i. slice_get table.nodes i ≡ Some c.get.result.now) c.number.ensures c.get.ensures)
