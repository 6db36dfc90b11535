use Rattle.std.proofs.Common.{refl, inl}
use Rattle.std.proofs.lemmas.Option.{slice_get_within}
use Rattle.air_symbolic.specs.declared.pools.expr.SymbolicExpr.TheVariants.{Leaf}
use Rattle.air_symbolic.proofs.Tables.{pool-seen, IsNode-seen}
use Rattle.air_symbolic.proofs.pools.pool.ExprPool.leaf_at.Goals as goal

pub returns-in-Some-clause-made : goal.returns-in-Some-clause-made
returns-in-Some-clause-made g c =
    let p = c.args.self.now in
    let table = c.self.inside in
    let i = c.in-Some.number in
    let known = IsNode-seen (g.A.SymLeaf.reads p.base) p table.base table.nodes i (Leaf c.args.a) c.self.view_is (pool-seen g.A.SymLeaf.reads p _ _ c.self.view_is c.self.invariant c.requires.owed).nodes c.in-Some.ensures in
    rw c.new.ensures record { here = slice_get_within p.nodes i (Leaf c.args.a) known.node; tree = known.tree }

pub returns-in-Some-clause-numbered : goal.returns-in-Some-clause-numbered
returns-in-Some-clause-numbered g c =
    let p = c.args.self.now in
    let table = c.self.inside in
    let i = c.in-Some.number in
    let known = IsNode-seen (g.A.SymLeaf.reads p.base) p table.base table.nodes i (Leaf c.args.a) c.self.view_is (pool-seen g.A.SymLeaf.reads p _ _ c.self.view_is c.self.invariant c.requires.owed).nodes c.in-Some.ensures in
    rw c.new.ensures (inl (slice_get_within p.nodes i (Leaf c.args.a) known.node, refl))
