use Rattle.std.proofs.Common.{sym, subst}
use Rattle.air_symbolic.specs.Nodes.{NodeFits}
use Rattle.air_symbolic.specs.BaseLeaves.{base_leaves}
use Rattle.air_symbolic.specs.ExtLeaves.{BaseNodes}
use Rattle.air_symbolic.specs.laws.ExtPool.{base_lent_from}
use Rattle.air_symbolic.proofs.pools.lower.ExprPool+ExtLeaf+F+EF.lower_mark.Goals as goal

pub insert-requires : goal.insert-requires
insert-requires g c = record {
  owed = λ u h. h;
  fits = subst (λ (u : BaseNodes g.row.F.Denot). NodeFits base_leaves u.nodes c.in-Node.node) (sym c.base_mut.ensures.value) c.in-Node.ensures.0;
}

pub returns-in_err-insert-in-Node-clause-grown : goal.returns-in_err-insert-in-Node-clause-grown
returns-in_err-insert-in-Node-clause-grown g c =
    base_lent_from g.met.EF.ExtensionField.laws c.args.self.now c.base_mut.result.now c.insert.new.self c.base_mut.ensures.value c.insert.ensures.grown

pub returns-in_ok-insert-in-Node-clause-grown : goal.returns-in_ok-insert-in-Node-clause-grown
returns-in_ok-insert-in-Node-clause-grown g c =
    base_lent_from g.met.EF.ExtensionField.laws c.args.self.now c.base_mut.result.now c.insert.new.self c.base_mut.ensures.value c.insert.ensures.grown
