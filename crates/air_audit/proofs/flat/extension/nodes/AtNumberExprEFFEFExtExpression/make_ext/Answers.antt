use Rattle.std.proofs.Common.{arith, subst}
use Rattle.air_symbolic.specs.ExtLeaves.{ext_reads}
use Rattle.air_symbolic.specs.Pools.{term_at}
use Rattle.air_builder.specs.Builders.{Means}
use Rattle.air_builder.specs.laws.Extensions.{over_extension}
use Rattle.air_audit.specs.Tables.{IsMade, HasAt}
use Rattle.air_audit.proofs.Making.{made_already, read_is, place_read, number_read}
use Rattle.air_audit.proofs.Roots.{has_within}
use Rattle.air_audit.proofs.flat.extension.nodes.AtNumberExprEFFEFExtExpression.make_ext.Goals as goal

pub index-requires : goal.index-requires
index-requires g c =
    let laws = g.met.AB.AirBuilder.laws in
    let h = c.requires.usable _ (laws.by_growth _ _ _ (laws.same _)) in
    omega (arith, h.0, c.number.ensures, c.args.self.now.0.now.plan.table.ok)

pub expression_at-requires : goal.expression_at-requires
expression_at-requires g c =
    let A = g.AB.AirBuilder in
    let laws = g.met.AB.AirBuilder.laws in
    let air = c.args.self.now.0.now in
    let table = c.args.self.now.1.now in
    let i = c.args.self.now.2 in
    let made = IsMade (Means g.AB.ExtRing.Algebra.means g.AB.ExtensionBuilder.ext_ring_of A.reads_as) A.missing c.args._builder.now
    (term_at (ext_reads g.AB.EF.ExtensionField.basis) air.pool i) in
    let h = c.requires.usable _ (laws.by_growth _ _ _ (laws.same _)) in
    has_within made table c.index.result.now
    (subst (λ p. HasAt made table p) (place_read air.plan.table.items i c.number.result c.index.result.now h.0 c.number.ensures c.index.ensures) h.1)

pub returns : goal.returns
returns g c =
    let laws = g.met.AB.AirBuilder.laws in
    let h = c.requires.usable _ (laws.by_growth _ _ _ (laws.same _)) in
    let places = c.args.self.now.0.now.plan.table.items in
    let table = c.args.self.now.1.now in
    made_already (over_extension laws g.met.AB.ExtensionBuilder.ext_laws) _ _ _ (read_is _ table _ c.expression_at.result h.1
    (number_read places table c.args.self.now.2 c.number.result c.index.result.now c.expression_at.result h.0 c.number.ensures c.index.ensures
    c.expression_at.ensures))
