use Rattle.std.proofs.Common.{[], ◌∷◌, sym, subst}
use Rattle.air_symbolic.specs.ExtLeaves.{ext_reads}
use Rattle.air_symbolic.specs.Reach.{Reached}
use Rattle.air_symbolic.specs.laws.ExtPool.{ext_pool_laws}
use Rattle.air_symbolic.proofs.Lowering.{lowered-has-term}
use Rattle.air_symbolic.proofs.pools.lower.ExprPool+ExtLeaf+F+EF.to_base.Goals as goal

pub returns-clause-term : goal.returns-clause-term
returns-clause-term g c =
    lowered-has-term g.F.Field.ring g.EF.ExtensionField.basis c.args.self.now c.args.id c.lower.new.self.base c.in_ok-base.base
    c.nodes_fit.ensures c.requires.here
    (λ h. let e = c.has_ext_only.ensures.1 h in let f = c.if-has_ext_only.false in absurd (cc))
    c.in_ok-base.ensures.made

pub has_ext_only-requires-clause-marked : goal.has_ext_only-requires-clause-marked
has_ext_only-requires-clause-marked g c =
    subst (λ m. Reached (ext_reads g.EF.ExtensionField.basis c.args.self.now.base) c.args.self.now.nodes (c.args.id ∷ []) m) (sym c.deref.ensures.value) c.in_ok-marks.ensures.marked

pub lower-requires-clause-marked : goal.lower-requires-clause-marked
lower-requires-clause-marked g c =
    subst (λ m. Reached (ext_reads g.EF.ExtensionField.basis c.args.self.now.base) c.args.self.now.nodes (c.args.id ∷ []) m) (sym c.deref-2.ensures.value) c.in_ok-marks.ensures.marked

pub lower-requires-clause-base_only : goal.lower-requires-clause-base_only
lower-requires-clause-base_only g c = λ h. let e = c.has_ext_only.ensures.1 h in let f = c.if-has_ext_only.false in absurd (cc)

pub returns-then-has_ext_only-clause-grown : goal.returns-then-has_ext_only-clause-grown
returns-then-has_ext_only-clause-grown g c = (ext_pool_laws g.met.EF.ExtensionField.laws).same c.args.self.now

pub returns-in_err-marks-clause-grown : goal.returns-in_err-marks-clause-grown
returns-in_err-marks-clause-grown g c = (ext_pool_laws g.met.EF.ExtensionField.laws).same c.args.self.now

pub returns-clause-grown : goal.returns-clause-grown
returns-clause-grown g c = c.lower.ensures.grown

pub returns-in_err-base-clause-grown : goal.returns-in_err-base-clause-grown
returns-in_err-base-clause-grown g c = c.lower.ensures.grown
