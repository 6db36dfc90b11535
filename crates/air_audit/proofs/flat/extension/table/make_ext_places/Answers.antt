use Rattle.std.proofs.Common.{◌<◌, [], length, inr, arith, sym, subst}
use Rattle.std.proofs.lemmas.Result.{err_from_is_err_and}
use Rattle.std.proofs.lemmas.List.{length_push}
use Rattle.air_symbolic.specs.BaseLeaves.{base_reads}
use Rattle.air_symbolic.specs.ExtLeaves.{ext_reads}
use Rattle.air_symbolic.specs.Pools.{term_at}
use Rattle.air_builder.specs.Builders.{Means}
use Rattle.air_builder.specs.Refusals.{PartOf}
use Rattle.air_builder.specs.laws.Extensions.{over_extension}
use Rattle.air_author.specs.laws.Each.{of_one}
use Rattle.air_audit.specs.Plans.{number_at}
use Rattle.air_audit.specs.ExtPlans.{ext_ids}
use Rattle.air_audit.specs.Tables.{IsMade, TableMade}
use Rattle.air_audit.proofs.Making.{is_made, made_stays, table_lasts}
use Rattle.air_audit.proofs.Needed.{number_part, table_more}
use Rattle.air_audit.proofs.flat.extension.table.make_ext_places.Goals as goal

pub make_ext_place-requires-clause-within : goal.make_ext_place-requires-clause-within
make_ext_place-requires-clause-within g c = omega (arith, c.loop-place-test.true, c.len-place-end.ensures, c.args.air.now.plan.numbers.ok)

pub make_ext_place-requires-clause-base : goal.make_ext_place-requires-clause-base
make_ext_place-requires-clause-base g c =
    let laws = g.met.AB.AirBuilder.laws in
    let air = c.args.air.now in
    let numbers = air.plan.base.numbers.items in
    let b = c.loop-place.builder in
    table_lasts g.met.AB.Ring.Algebra.laws laws (term_at base_reads air.pool.base) numbers c.args.base.now (length numbers) c.args.builder.now b
    (laws.by_growth c.args.builder.now b [] c.loop-place.invariant.grown) c.requires.base

pub make_ext_place-requires-clause-table : goal.make_ext_place-requires-clause-table
make_ext_place-requires-clause-table g c =
    let A = g.AB.AirBuilder in
    let air = c.args.air.now in
    let made = IsMade (Means g.AB.ExtRing.Algebra.means g.AB.ExtensionBuilder.ext_ring_of A.reads_as) A.missing c.loop-place.builder in
    subst (λ v. TableMade made (term_at (ext_reads g.AB.EF.ExtensionField.basis) air.pool) air.plan.numbers.items v c.loop-place.place)
    (sym c.deref.ensures.value) c.loop-place.invariant.made

pub returns-in_err-x-clause-keeps : goal.returns-in_err-x-clause-keeps
returns-in_err-x-clause-keeps g c =
    g.met.AB.AirBuilder.laws.joined _ _ _ [] [] c.loop-place.invariant.grown c.make_ext_place.ensures.keeps

pub returns-in_err-x-clause-refused : goal.returns-in_err-x-clause-refused
returns-in_err-x-clause-refused g c =
    let laws = g.met.AB.AirBuilder.laws in
    let air = c.args.air.now in
    let pool = air.pool in
    let numbers = air.plan.numbers.items in
    let k = c.loop-place.place in
    let order = air.planned.order in
    let basis = g.AB.EF.ExtensionField.basis in
    let lt : k < length numbers = omega (arith, c.loop-place-test.true, c.len-place-end.ensures, air.plan.numbers.ok) in
    let p = err_from_is_err_and c.from_residual-in_err-x.result c.from_residual-in_err-x.ensures.1 in
    rw (p.1, p.2) (λ ss parts.
    let part = number_part (ext_reads basis pool.base) pool.nodes air.roots_in.pool.nodes (ext_ids air.roots.items) numbers order.here order.used ss parts k
    lt in
    inr (laws.refuses_then _ _ _ [] ss c.loop-place.invariant.grown (c.in_err-x.ensures.refused ss (of_one (λ u. PartOf u ss) _ part))))

pub push_reserved-requires : goal.push_reserved-requires
push_reserved-requires g c =
    let h = c.loop-place.invariant in
    omega (arith, c.loop-place-test.true, c.len-place-end.ensures, c.args.air.now.plan.numbers.ok, h.long, h.room, c.loop-place.table.ok)

pub loop-place-preserved : goal.loop-place-preserved
loop-place-preserved g c =
    let A = g.AB.AirBuilder in
    let laws = g.met.AB.AirBuilder.laws in
    let over_laws = over_extension laws g.met.AB.ExtensionBuilder.ext_laws in
    let air = c.args.air.now in
    let h = c.loop-place.invariant in
    let k = c.loop-place.place in
    let numbers = air.plan.numbers.items in
    let term = term_at (ext_reads g.AB.EF.ExtensionField.basis) air.pool in
    let made = IsMade (Means g.AB.ExtRing.Algebra.means g.AB.ExtensionBuilder.ext_ring_of A.reads_as) A.missing in
    let b = c.loop-place.builder in
    let d = c.make_ext_place.new.builder in
    let kept = laws.by_growth b d [] c.make_ext_place.ensures.keeps in
    let table = c.loop-place.table.items in
    let x = c.in_ok-x.x in
    let size = length_push table x in
    let new = is_made g.met.AB.ExtRing.Algebra.laws over_laws b d (term (number_at numbers k)) x c.in_ok-x.ensures in
    record {
      grown = laws.joined _ _ _ [] [] h.grown c.make_ext_place.ensures.keeps;
      ready = laws.ready_kept b d kept h.ready;
      long = rw c.push_reserved.ensures.items (omega (arith, size, h.long));
      room = omega (arith, h.room, c.push_reserved.ensures.capacity);
      made = rw c.push_reserved.ensures.items (table_more (made b) (made d) term numbers table k x h.long
          (λ t y. made_stays g.met.AB.ExtRing.Algebra.laws over_laws b d t y kept) h.made new);
    }

pub returns-clause-made : goal.returns-clause-made
returns-clause-made g c p below =
    c.loop-place.invariant.made p (omega (arith, below, c.loop-place-test.false, c.len-place-end.ensures, c.args.air.now.plan.numbers.ok))
