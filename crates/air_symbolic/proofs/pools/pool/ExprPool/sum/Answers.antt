use Rattle.std.proofs.Common.{length, ◌-◌, drop, take, arith}
use Rattle.std.proofs.lemmas.List.{drop_all}
use Rattle.air_symbolic.specs.laws.Pools.{Grown-trans}
use Rattle.air_symbolic.proofs.SimplifiedLists.{left-is, sum_begun, sum_taken, sum_ended, drop_item, next_in}
use Rattle.air_symbolic.proofs.SimplifiedTerms.{IsSumOfAll-simplifies}
use Rattle.air_symbolic.proofs.pools.pool.ExprPool.sum.Goals as goal

pub loop-x-init : goal.loop-x-init
loop-x-init g c =
    sum_begun g.A.F.Field.ring g.A.F.PartialEq.eq g.A.SymLeaf.reads g.A.SymLeaf.grows g.A.SymLeaf.empty_base g.met.A.SymLeaf.leaf_laws c.args.self.now c.args.xs.now c.first-item.result (omega arith) c.first-item.is c.requires.all_in

pub returns-in_err-total-clause-grown : goal.returns-in_err-total-clause-grown
returns-in_err-total-clause-grown g c =
    Grown-trans g.A.F.Field.ring g.A.SymLeaf.reads g.A.SymLeaf.grows g.A.SymLeaf.empty_base g.met.A.SymLeaf.leaf_laws c.args.self.now c.loop-x.self c.add.new.self
    c.loop-x.invariant.grown c.add.ensures.grown

pub loop-x-preserved : goal.loop-x-preserved
loop-x-preserved g c =
    sum_taken g.A.F.Field.ring g.A.F.PartialEq.eq g.A.SymLeaf.reads g.A.SymLeaf.grows g.A.SymLeaf.empty_base g.met.A.SymLeaf.leaf_laws c.args.self.now c.loop-x.self c.add.new.self c.loop-x.total c.x-item.result c.in_ok-total.total _
    c.nodes_fit.ensures c.add.ensures.grown c.in_ok-total.ensures.made
    (left-is _ _ (drop_item (take (length c.args.xs.now - 1) (drop 1 c.args.xs.now)) c.loop-x.x-index c.x-item.result c.loop-x-test.true c.x-item.is) c.loop-x.invariant)

pub add-requires : goal.add-requires
add-requires g c = record {
  owed = λ u h. c.loop-x.invariant.grown.pool c.nodes_fit.ensures;
  x_in = c.loop-x.invariant.total_in;
  y_in = next_in g.met.A.SymLeaf.leaf_laws (take (length c.args.xs.now - 1) (drop 1 c.args.xs.now)) c.loop-x.x-index c.loop-x-test.true c.x-item.is c.loop-x.invariant;
}

pub returns-clause-grown : goal.returns-clause-grown
returns-clause-grown g c = c.loop-x.invariant.grown

pub returns-clause-made : goal.returns-clause-made
returns-clause-made g c =
    sum_ended g.A.F.Field.ring g.A.F.PartialEq.eq g.A.SymLeaf.reads g.A.SymLeaf.grows g.A.SymLeaf.empty_base g.met.A.SymLeaf.leaf_laws c.args.self.now c.loop-x.self c.args.xs.now c.loop-x.total
    (left-is _ _ (drop_all c.loop-x.x-index (take (length c.args.xs.now - 1) (drop 1 c.args.xs.now)) c.loop-x-test.false) c.loop-x.invariant)

pub returns-clause-simplifies : goal.returns-clause-simplifies
returns-clause-simplifies g c =
    IsSumOfAll-simplifies g.A.F.Field.ring g.A.F.PartialEq.eq g.met.A.F.Field.eq_is g.A.SymLeaf.reads g.A.SymLeaf.grows g.A.SymLeaf.empty_base g.met.A.SymLeaf.leaf_laws c.args.self.now c.loop-x.self c.nodes_fit.ensures c.loop-x.invariant.grown
    c.args.xs.now c.requires.all_in c.loop-x.total
    (returns-clause-made g c)
