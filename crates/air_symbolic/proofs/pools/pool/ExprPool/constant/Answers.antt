use Rattle.air_symbolic.specs.laws.Pools.{Grown-trans}
use Rattle.air_symbolic.proofs.Tables.{pool-seen, Grown-under-seen}
use Rattle.air_symbolic.proofs.pools.pool.ExprPool.constant.Goals as goal

pub returns-in_err-a-clause-grown : goal.returns-in_err-a-clause-grown
returns-in_err-a-clause-grown g c =
    Grown-under-seen g.met.A.SymLeaf.leaf_laws c.args.self.now c.self.inside.base c.self.inside.nodes c.self.view_is c.from_const.new.base c.from_const.ensures.grown

pub leaf-requires-clause-owed : goal.leaf-requires-clause-owed
leaf-requires-clause-owed g c u h =
    (Grown-under-seen g.met.A.SymLeaf.leaf_laws c.args.self.now c.self.inside.base c.self.inside.nodes c.self.view_is c.from_const.new.base c.from_const.ensures.grown).pool
    (pool-seen g.A.SymLeaf.reads c.args.self.now _ _ c.self.view_is c.self.invariant c.requires)

pub returns-clause-grown : goal.returns-clause-grown
returns-clause-grown g c =
    Grown-trans g.A.F.Field.ring g.A.SymLeaf.reads g.A.SymLeaf.grows g.A.SymLeaf.empty_base g.met.A.SymLeaf.leaf_laws c.args.self.now
    (record { base = c.from_const.new.base; nodes = c.self.inside.nodes }) c.leaf.new.self
    (Grown-under-seen g.met.A.SymLeaf.leaf_laws c.args.self.now c.self.inside.base c.self.inside.nodes c.self.view_is c.from_const.new.base c.from_const.ensures.grown)
    c.leaf.ensures.grown
