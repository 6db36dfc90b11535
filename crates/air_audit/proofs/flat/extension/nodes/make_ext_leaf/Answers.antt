use Rattle.std.proofs.Common.{◌<◌, length, subst, sym}
use Rattle.air_symbolic.specs.BaseLeaves.{base_reads}
use Rattle.air_symbolic.specs.Pools.{term_at}
use Rattle.air_builder.specs.Builders.{Means}
use Rattle.air_author.specs.Expressions.{AlwaysAfter}
use Rattle.air_audit.specs.Plans.{number_at}
use Rattle.air_audit.specs.ExtPlans.{LeafIsPlanned}
use Rattle.air_audit.specs.Tables.{IsMade, HasAt}
use Rattle.air_audit.proofs.Making.{at_lasts, place_read}
use Rattle.air_audit.proofs.flat.extension.nodes.make_ext_leaf.Goals as goal

pub make_ext-requires-clause-usable : goal.make_ext-requires-clause-usable
make_ext-requires-clause-usable g c =
    let A = g.AB.AirBuilder in
    let air = c.args.air.now in
    let numbers = air.plan.base.numbers.items in
    let places = air.plan.base_table.items in
    let place = c.index-place.result.now in
    let base = c.args.base.now in
    let made = IsMade (Means g.AB.Ring.Algebra.means A.ring_of A.reads_as) A.missing in
    let q = subst (λ a. LeafIsPlanned numbers places a) c.in-Base.is c.requires.planned in
    let at = place_read places c.in-Base.id c.number.result place q.0 c.number.ensures c.index-place.ensures in
    let lt = subst (λ p. p < length numbers) at q.1.0 in
    let h = at_lasts g.met.AB.Ring.Algebra.laws g.met.AB.AirBuilder.laws base place (term_at base_reads air.pool.base (number_at numbers place))
    c.args.builder.now (c.requires.base place lt) in
    subst (λ u. AlwaysAfter A.kept (λ b. HasAt (made b (term_at base_reads u (number_at c.deref.result.now place))) base place) c.args.builder.now)
    (sym c.base.ensures)
    (subst (λ v. AlwaysAfter A.kept (λ b. HasAt (made b (term_at base_reads air.pool.base (number_at v place))) base place) c.args.builder.now)
    (sym c.deref.ensures.value) h)
