use Rattle.std.proofs.Common.{◌≡◌, ◌<◌, [], length, get_or, map, inr, arith, sym, subst, ap}
use Rattle.std.proofs.lemmas.Result.{err_from_is_err_and}
use Rattle.std.proofs.lemmas.List.{length_push}
use Rattle.std.proofs.lemmas.List.Elements.{All-map}
use Rattle.air_symbolic.specs.BaseLeaves.{base_leaves, base_reads}
use Rattle.air_symbolic.specs.Pools.{term_at}
use Rattle.air_builder.specs.Builders.{Means}
use Rattle.air_builder.specs.Refusals.{PartOf}
use Rattle.air_author.specs.laws.Each.{of_one}
use Rattle.air_audit.specs.Plans.{number_at, MakesPlace}
use Rattle.air_audit.specs.declared.flat.step.Step.TheVariants as step
use Rattle.air_audit.specs.Tables.{IsMade, TableMade}
use Rattle.air_audit.proofs.Making.{is_made, made_stays}
use Rattle.air_audit.proofs.Needed.{number_part, table_more}
use Rattle.air_audit.proofs.flat.table.make_places.Goals as goal

pub make_step-requires-clause-within : goal.make_step-requires-clause-within
make_step-requires-clause-within g c =
    let A = g.AB.AirBuilder in
    let laws = g.met.AB.AirBuilder.laws in
    let plan = c.args.plan.now in
    let ns = c.args.pool.now.nodes in
    let h = c.loop-step.invariant in
    let k = c.loop-step.step-index in
    let numbers = plan.numbers.items in
    let term = term_at base_reads c.args.pool.now in
    let made = IsMade (Means g.AB.Ring.Algebra.means A.ring_of A.reads_as) A.missing in
    let all = ap length c.deref-step-items.ensures.value in
    let lt : k < length numbers = omega (arith, c.loop-step-test.true, all, c.requires.planned.made.long) in
    let same : c.len-in-loop-step.result ≡ k = omega (arith, c.len-in-loop-step.ensures, c.loop-step.table.ok, h.long) in
    let long = ap length c.deref.ensures.value in omega (arith, same, lt, long)

pub make_step-requires-clause-here : goal.make_step-requires-clause-here
make_step-requires-clause-here g c =
    let A = g.AB.AirBuilder in
    let laws = g.met.AB.AirBuilder.laws in
    let plan = c.args.plan.now in
    let ns = c.args.pool.now.nodes in
    let h = c.loop-step.invariant in
    let k = c.loop-step.step-index in
    let numbers = plan.numbers.items in
    let term = term_at base_reads c.args.pool.now in
    let made = IsMade (Means g.AB.Ring.Algebra.means A.ring_of A.reads_as) A.missing in
    let all = ap length c.deref-step-items.ensures.value in
    let lt : k < length numbers = omega (arith, c.loop-step-test.true, all, c.requires.planned.made.long) in
    let same : c.len-in-loop-step.result ≡ k = omega (arith, c.len-in-loop-step.ensures, c.loop-step.table.ok, h.long) in
    subst (λ v. number_at v c.len-in-loop-step.result < length ns) (sym c.deref.ensures.value) (subst (λ p. number_at numbers p < length ns) (sym same) (c.requires.planned.here k lt))

pub make_step-requires-clause-makes : goal.make_step-requires-clause-makes
make_step-requires-clause-makes g c =
    let A = g.AB.AirBuilder in
    let laws = g.met.AB.AirBuilder.laws in
    let plan = c.args.plan.now in
    let ns = c.args.pool.now.nodes in
    let h = c.loop-step.invariant in
    let k = c.loop-step.step-index in
    let numbers = plan.numbers.items in
    let term = term_at base_reads c.args.pool.now in
    let made = IsMade (Means g.AB.Ring.Algebra.means A.ring_of A.reads_as) A.missing in
    let all = ap length c.deref-step-items.ensures.value in
    let lt : k < length numbers = omega (arith, c.loop-step-test.true, all, c.requires.planned.made.long) in
    let same : c.len-in-loop-step.result ≡ k = omega (arith, c.len-in-loop-step.ensures, c.loop-step.table.ok, h.long) in
    let steps = c.deref-step-items.result.now in
    subst (λ v. MakesPlace base_leaves ns v c.len-in-loop-step.result (get_or steps k step.Leaf)) (sym c.deref.ensures.value)
    (subst (λ p. MakesPlace base_leaves ns numbers p (get_or steps k step.Leaf)) (sym same)
    (subst (λ v. MakesPlace base_leaves ns numbers k (get_or v k step.Leaf)) (sym c.deref-step-items.ensures.value) (c.requires.planned.made.makes k lt)))

pub make_step-requires-clause-table : goal.make_step-requires-clause-table
make_step-requires-clause-table g c =
    let A = g.AB.AirBuilder in
    let laws = g.met.AB.AirBuilder.laws in
    let plan = c.args.plan.now in
    let ns = c.args.pool.now.nodes in
    let h = c.loop-step.invariant in
    let k = c.loop-step.step-index in
    let numbers = plan.numbers.items in
    let term = term_at base_reads c.args.pool.now in
    let made = IsMade (Means g.AB.Ring.Algebra.means A.ring_of A.reads_as) A.missing in
    let all = ap length c.deref-step-items.ensures.value in
    let lt : k < length numbers = omega (arith, c.loop-step-test.true, all, c.requires.planned.made.long) in
    let same : c.len-in-loop-step.result ≡ k = omega (arith, c.len-in-loop-step.ensures, c.loop-step.table.ok, h.long) in
    subst (λ v. TableMade (made c.loop-step.builder) term v c.deref-in-loop-step.result.now c.len-in-loop-step.result) (sym c.deref.ensures.value)
    (subst (λ v. TableMade (made c.loop-step.builder) term numbers v c.len-in-loop-step.result) (sym c.deref-in-loop-step.ensures.value)
    (subst (λ p. TableMade (made c.loop-step.builder) term numbers c.loop-step.table.items p) (sym same) h.made))

pub returns-in_err-x-clause-keeps : goal.returns-in_err-x-clause-keeps
returns-in_err-x-clause-keeps g c =
    g.met.AB.AirBuilder.laws.joined _ _ _ [] [] c.loop-step.invariant.grown c.make_step.ensures.keeps

pub returns-in_err-x-clause-refused : goal.returns-in_err-x-clause-refused
returns-in_err-x-clause-refused g c =
    let A = g.AB.AirBuilder in
    let laws = g.met.AB.AirBuilder.laws in
    let plan = c.args.plan.now in
    let ns = c.args.pool.now.nodes in
    let h = c.loop-step.invariant in
    let k = c.loop-step.step-index in
    let numbers = plan.numbers.items in
    let term = term_at base_reads c.args.pool.now in
    let made = IsMade (Means g.AB.Ring.Algebra.means A.ring_of A.reads_as) A.missing in
    let all = ap length c.deref-step-items.ensures.value in
    let lt : k < length numbers = omega (arith, c.loop-step-test.true, all, c.requires.planned.made.long) in
    let same : c.len-in-loop-step.result ≡ k = omega (arith, c.len-in-loop-step.ensures, c.loop-step.table.ok, h.long) in
    let p = err_from_is_err_and c.from_residual-in_err-x.result c.from_residual-in_err-x.ensures.1 in
    rw (p.1, p.2) (λ ss parts.
    let roots = All-map (λ i. PartOf (term i) ss) (number_at numbers) plan.places.items parts in
    let part = number_part base_leaves ns c.nodes_fit.ensures.nodes (map (number_at numbers) plan.places.items) numbers c.requires.planned.here c.requires.planned.used ss roots k lt in
    let here = subst (λ v. PartOf (term (number_at v c.len-in-loop-step.result)) ss) (sym c.deref.ensures.value) (subst (λ q. PartOf (term (number_at numbers q)) ss) (sym same) part) in
    inr (laws.refuses_then _ _ _ [] ss h.grown (c.in_err-x.ensures.refused ss (of_one (λ u. PartOf u ss) _ here))))

pub push_reserved-requires : goal.push_reserved-requires
push_reserved-requires g c =
    let h = c.loop-step.invariant in
    let all = ap length c.deref-step-items.ensures.value in omega (arith, c.loop-step-test.true, all, h.long, h.room, c.loop-step.table.ok)

pub loop-step-preserved : goal.loop-step-preserved
loop-step-preserved g c =
    let A = g.AB.AirBuilder in
    let laws = g.met.AB.AirBuilder.laws in
    let plan = c.args.plan.now in
    let ns = c.args.pool.now.nodes in
    let h = c.loop-step.invariant in
    let k = c.loop-step.step-index in
    let numbers = plan.numbers.items in
    let term = term_at base_reads c.args.pool.now in
    let made = IsMade (Means g.AB.Ring.Algebra.means A.ring_of A.reads_as) A.missing in
    let all = ap length c.deref-step-items.ensures.value in
    let lt : k < length numbers = omega (arith, c.loop-step-test.true, all, c.requires.planned.made.long) in
    let same : c.len-in-loop-step.result ≡ k = omega (arith, c.len-in-loop-step.ensures, c.loop-step.table.ok, h.long) in
    let b = c.loop-step.builder in
    let d = c.make_step.new.builder in
    let kept = laws.by_growth b d [] c.make_step.ensures.keeps in
    let table = c.loop-step.table.items in
    let x = c.in_ok-x.x in
    let size = length_push table x in
    let said = is_made g.met.AB.Ring.Algebra.laws laws b d (term (number_at c.deref.result.now c.len-in-loop-step.result)) x c.in_ok-x.ensures in
    let new = subst (λ q. made d (term (number_at numbers q)) x) same (subst (λ v. made d (term (number_at v c.len-in-loop-step.result)) x) c.deref.ensures.value said) in
    record {
      grown = laws.joined _ _ _ [] [] h.grown c.make_step.ensures.keeps;
      ready = laws.ready_kept b d kept h.ready;
      long = rw c.push_reserved.ensures.items (omega (arith, size, h.long));
      room = omega (arith, h.room, c.push_reserved.ensures.capacity);
      made = rw c.push_reserved.ensures.items (table_more (made b) (made d) term numbers table k x h.long (λ t y. made_stays g.met.AB.Ring.Algebra.laws laws b d t y kept) h.made new);
    }

pub returns-clause-made : goal.returns-clause-made
returns-clause-made g c p below =
    let all = ap length c.deref-step-items.ensures.value in
    c.loop-step.invariant.made p (omega (arith, below, c.loop-step-test.false, all, c.requires.planned.made.long))
