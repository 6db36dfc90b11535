use Rattle.std.proofs.Common.{◌≡◌, ◌≢◌, ◌<◌, ◌∙◌, ⊎_elim, eqb, ◌==◌, ℕ, List, zero, suc, true, false, [], ◌∷◌, map, length, All, Ok, inl, inr, arith, refl, sym, subst}
use Rattle.std.proofs.lemmas.Bool.Decides.{eqb_tells}
use Rattle.std.proofs.lemmas.List.{length-map}
use Rattle.std.proofs.lemmas.Result.{err_from_is_err_and}
use Rattle.air_core.specs.declared.errors.AirError.TheVariants.{Memory}
use Rattle.air_symbolic.specs.BaseLeaves.{base_leaves, base_reads}
use Rattle.air_symbolic.specs.ExtLeaves.{ext_reads}
use Rattle.air_symbolic.specs.Pools.{term_at}
use Rattle.air_builder.specs.Builders.{Means}
use Rattle.air_builder.specs.Refusals.{PartOf}
use Rattle.air_builder.specs.Batches.{AssertedList, OrMemory}
use Rattle.air_builder.specs.Labels.{LabelledBy}
use Rattle.air_builder.specs.laws.LabelGrowth.{none_labelled, list_labelled}
use Rattle.air_audit.specs.RootLabels.{RootSays}
use Rattle.air_audit.specs.Plans.{number_at, IsPlan}
use Rattle.air_audit.specs.ExtPlans.{made_of_base}
use Rattle.air_audit.specs.FlatExtAirs.{zero_at_root, zero_at_ext_roots}
use Rattle.air_audit.specs.Tables.{IsMade, AssertsRoot, TableMade}
use Rattle.air_audit.proofs.Asserting.{none_asserted, list_asserted, list_refused}
use Rattle.air_audit.proofs.Making.{table_lasts}
use Rattle.air_audit.proofs.Needed.{roots_are, plan_of_places}
use Rattle.air_audit.proofs.OverMaking.{planned_roots}
use Rattle.air_audit.proofs.OverRoots.{over_parts, made_parts, roots_have, roots_assert, roots_there}
use Rattle.air_audit.proofs.Roots.{all_of_map}
use Rattle.air_audit.proofs.flat.extension.eval.FlatExtAirFEFAir.eval.Goals as goal

zero_by_test : (n : ℕ) → true ≡ (n == 0) → n ≡ 0
zero_by_test n e =
    ⊎_elim (λ (h : (eqb n 0 ≡ true) × (n ≡ 0)). h.1) (λ (h : (eqb n 0 ≡ false) × (n ≢ 0)). absurd (cc (e ∙ h.0))) (eqb_tells n 0)

none_there : {A : Type 0} (xs : List A) → length xs ≡ 0 → xs ≡ []
none_there [] e = refl
none_there (x ∷ xs) e = absurd (omega (arith, e))

not_none : (n : ℕ) → false ≡ (n == 0) → 0 < n
not_none zero e = cc
not_none (suc n) e = omega arith

pub returns-then-is_empty-clause-evaluated : goal.returns-then-is_empty-clause-evaluated
returns-then-is_empty-clause-evaluated g c =
    let A = g.AB.AirBuilder in
    let a = c.args.self.now in
    let b = c.args.builder.now in
    let none = zero_by_test _ c.if-is_empty.ensures in
    let short : length a.roots.items ≡ 0 = omega (arith, none) in
    subst (λ xs. AssertedList A.kept A.grew A.missing (OrMemory A.refuses) b b (Ok tt) (zero_at_ext_roots g.AB.EF.ExtensionField.basis a.pool xs))
    (sym (none_there a.roots.items short)) (none_asserted g.met.AB.Ring.Algebra.laws g.met.AB.AirBuilder.laws b)

pub make_places-requires-clause-planned : goal.make_places-requires-clause-planned
make_places-requires-clause-planned g c =
    let a = c.args.self.now in
    let plan = a.plan.base in
    subst (λ u. IsPlan base_leaves u.nodes (map (number_at plan.numbers.items) plan.places.items) plan.numbers.items plan.steps.items plan.places.items)
    (sym c.base.ensures)
    (plan_of_places base_leaves a.pool.base.nodes (made_of_base a.pool a.roots.items a.plan.numbers.items) plan.numbers.items plan.steps.items
    plan.places.items a.planned.base)

pub returns-in_err-base-clause-evaluated : goal.returns-in_err-base-clause-evaluated
returns-in_err-base-clause-evaluated g c =
    let q = err_from_is_err_and c.from_residual.result c.from_residual.ensures.1 in
    let a = c.args.self.now in
    let p = a.pool in
    let plan = a.plan.base in
    let numbers = plan.numbers.items in
    let basis = g.AB.EF.ExtensionField.basis in
    let roots = a.roots.items in
    let ss = zero_at_ext_roots basis p roots in
    let len = length-map roots (zero_at_root basis p) in
    let some : 0 < length ss = omega (arith, len, not_none _ c.if-is_empty.ensures) in
    let made = made_parts basis p a.roots_in.pool.nodes roots a.plan.numbers.items a.plan.table.items a.planned.order in
    let at = all_of_map (λ i. PartOf (term_at base_reads p.base i) ss) (number_at numbers) plan.places.items
    (subst (λ v. All (λ i. PartOf (term_at base_reads p.base i) ss) v) (roots_are numbers plan.places.items (made_of_base p roots a.plan.numbers.items)
    a.planned.base.stand) made) in
    rw (q.1, q.2)
    (list_refused g.met.AB.Ring.Algebra.laws g.met.AB.AirBuilder.laws _ c.make_places.new.builder c.in_err-base.field-0.0 ss some c.make_places.ensures.keeps
    (c.in_err-base.ensures.refused ss (subst (λ u. All (λ k. PartOf (term_at base_reads u (number_at numbers k)) ss) plan.places.items) (sym c.base.ensures)
    at)))

pub make_ext_places-requires-clause-base : goal.make_ext_places-requires-clause-base
make_ext_places-requires-clause-base g c =
    let A = g.AB.AirBuilder in
    let a = c.args.self.now in
    let numbers = a.plan.base.numbers.items in
    let made = IsMade (Means g.AB.Ring.Algebra.means A.ring_of A.reads_as) A.missing c.make_places.new.builder in
    subst (λ t. TableMade made (term_at base_reads a.pool.base) numbers t (length numbers)) (sym c.deref.ensures.value)
    (subst (λ u. TableMade made (term_at base_reads u) numbers c.in_ok-base.base.items (length numbers)) c.base.ensures c.in_ok-base.ensures.made)

pub returns-in_err-table-clause-evaluated : goal.returns-in_err-table-clause-evaluated
returns-in_err-table-clause-evaluated g c =
    let A = g.AB.AirBuilder in
    let laws = g.met.AB.AirBuilder.laws in
    let q = err_from_is_err_and c.from_residual-in_err-table.result c.from_residual-in_err-table.ensures.1 in
    let a = c.args.self.now in
    let p = a.pool in
    let basis = g.AB.EF.ExtensionField.basis in
    let roots = a.roots.items in
    let ss = zero_at_ext_roots basis p roots in
    let len = length-map roots (zero_at_root basis p) in
    let some : 0 < length ss = omega (arith, len, not_none _ c.if-is_empty.ensures) in
    let e = c.in_err-table.field-0.0 in
    let b = c.args.builder.now in
    let d = c.make_places.new.builder in
    rw (q.1, q.2)
    (list_refused g.met.AB.Ring.Algebra.laws laws b c.make_ext_places.new.builder e ss some
    (laws.joined b d c.make_ext_places.new.builder [] [] c.make_places.ensures.keeps c.make_ext_places.ensures.keeps)
    (⊎_elim (λ (m : e ≡ Memory). inl m) (λ (r : A.refuses d e ss). inr (laws.refuses_then b d e [] ss c.make_places.ensures.keeps r))
    (c.in_err-table.ensures.refused ss (over_parts basis p roots))))

pub assert_roots-requires-clause-of_ring : goal.assert_roots-requires-clause-of_ring
assert_roots-requires-clause-of_ring g c =
    let A = g.AB.AirBuilder in
    let laws = g.met.AB.AirBuilder.laws in
    let a = c.args.self.now in
    let basis = g.AB.EF.ExtensionField.basis in
    let roots = a.roots.items in
    let b = c.make_places.new.builder in
    let d = c.make_ext_places.new.builder in
    let base = c.deref-2.result.now in
    let over = c.deref-3.result.now in
    let numbers = a.plan.base.numbers.items in
    let term = term_at base_reads a.pool.base in
    let means = Means g.AB.Ring.Algebra.means A.ring_of A.reads_as in
    let means_over = Means g.AB.ExtRing.Algebra.means g.AB.ExtensionBuilder.ext_ring_of A.reads_as in
    let first = subst (λ u. TableMade (IsMade means A.missing b) (term_at base_reads u) numbers c.in_ok-base.base.items (length numbers)) c.base.ensures
    c.in_ok-base.ensures.made in
    let later = table_lasts g.met.AB.Ring.Algebra.laws laws term numbers c.in_ok-base.base.items (length numbers) b d
    (laws.by_growth b d [] c.make_ext_places.ensures.keeps) first in
    let made = planned_roots basis a.pool roots numbers a.plan.base.steps.items a.plan.base.places.items a.plan.base_table.items a.plan.numbers.items
    a.plan.table.items a.roots_in a.planned (IsMade means A.missing d) (IsMade means_over A.missing d) base over
    (subst (λ t. TableMade (IsMade means A.missing d) term numbers t (length numbers)) (sym c.deref-2.ensures.value) later)
    (subst (λ t. TableMade (IsMade means_over A.missing d) (term_at (ext_reads basis) a.pool) a.plan.numbers.items t (length a.plan.numbers.items))
    (sym c.deref-3.ensures.value) c.in_ok-table.ensures.made) in
    roots_have g.met.AB.Ring.Algebra.laws g.met.AB.ExtRing.Algebra.laws laws g.met.AB.ExtensionBuilder.ext_laws a.plan.base_table.items a.plan.table.items
    base over basis a.pool d roots made

pub returns-clause-evaluated : goal.returns-clause-evaluated
returns-clause-evaluated g c =
    let A = g.AB.AirBuilder in
    let laws = g.met.AB.AirBuilder.laws in
    let a = c.args.self.now in
    let basis = g.AB.EF.ExtensionField.basis in
    let roots = a.roots.items in
    let b = c.make_places.new.builder in
    let d = c.make_ext_places.new.builder in
    let base = c.deref-2.result.now in
    let over = c.deref-3.result.now in
    let numbers = a.plan.base.numbers.items in
    let term = term_at base_reads a.pool.base in
    let means = Means g.AB.Ring.Algebra.means A.ring_of A.reads_as in
    let means_over = Means g.AB.ExtRing.Algebra.means g.AB.ExtensionBuilder.ext_ring_of A.reads_as in
    let first = subst (λ u. TableMade (IsMade means A.missing b) (term_at base_reads u) numbers c.in_ok-base.base.items (length numbers)) c.base.ensures
    c.in_ok-base.ensures.made in
    let later = table_lasts g.met.AB.Ring.Algebra.laws laws term numbers c.in_ok-base.base.items (length numbers) b d
    (laws.by_growth b d [] c.make_ext_places.ensures.keeps) first in
    let made = planned_roots basis a.pool roots numbers a.plan.base.steps.items a.plan.base.places.items a.plan.base_table.items a.plan.numbers.items
    a.plan.table.items a.roots_in a.planned (IsMade means A.missing d) (IsMade means_over A.missing d) base over
    (subst (λ t. TableMade (IsMade means A.missing d) term numbers t (length numbers)) (sym c.deref-2.ensures.value) later)
    (subst (λ t. TableMade (IsMade means_over A.missing d) (term_at (ext_reads basis) a.pool) a.plan.numbers.items t (length a.plan.numbers.items))
    (sym c.deref-3.ensures.value) c.in_ok-table.ensures.made) in
    let before = c.args.builder.now in
    let grew = laws.joined before b d [] [] c.make_places.ensures.keeps c.make_ext_places.ensures.keeps in
    list_asserted g.met.AB.Ring.Algebra.laws laws (AssertsRoot means means_over a.plan.base_table.items a.plan.table.items base over) before d
    c.assert_roots.new.builder roots (zero_at_ext_roots basis a.pool roots) c.assert_roots.result grew
    (roots_assert g.met.AB.Ring.Algebra.laws g.met.AB.ExtRing.Algebra.laws laws g.met.AB.ExtensionBuilder.ext_laws a.plan.base_table.items a.plan.table.items
    base over basis a.pool d roots made)
    (roots_there g.met.AB.Ring.Algebra.laws g.met.AB.ExtRing.Algebra.laws laws g.met.AB.ExtensionBuilder.ext_laws a.plan.base_table.items a.plan.table.items
    base over basis a.pool d before (laws.by_growth before d [] grew) roots made)
    c.assert_roots.ensures.asserted

pub returns-then-is_empty-clause-labelled : goal.returns-then-is_empty-clause-labelled
returns-then-is_empty-clause-labelled g c =
    let a = c.args.self.now in
    let b = c.args.builder.now in
    let none = zero_by_test _ c.if-is_empty.ensures in
    let short : length a.roots.items ≡ 0 = omega (arith, none) in
    subst (λ xs. LabelledBy g.AB.NamedAirBuilder.labelled (RootSays a.labels.items) b b (zero_at_ext_roots g.AB.EF.ExtensionField.basis a.pool xs))
    (sym (none_there a.roots.items short)) (none_labelled g.met.AB.NamedAirBuilder.named_laws b (g.met.AB.AirBuilder.laws.same b))

pub returns-in_err-base-clause-labelled : goal.returns-in_err-base-clause-labelled
returns-in_err-base-clause-labelled g c =
    let q = err_from_is_err_and c.from_residual.result c.from_residual.ensures.1 in
    rw q.1 tt

pub returns-in_err-table-clause-labelled : goal.returns-in_err-table-clause-labelled
returns-in_err-table-clause-labelled g c =
    let q = err_from_is_err_and c.from_residual-in_err-table.result c.from_residual-in_err-table.ensures.1 in
    rw q.1 tt

pub returns-clause-labelled : goal.returns-clause-labelled
returns-clause-labelled g c =
    let A = g.AB.AirBuilder in
    let laws = g.met.AB.AirBuilder.laws in
    let a = c.args.self.now in
    let basis = g.AB.EF.ExtensionField.basis in
    let roots = a.roots.items in
    let b = c.make_places.new.builder in
    let d = c.make_ext_places.new.builder in
    let base = c.deref-2.result.now in
    let over = c.deref-3.result.now in
    let numbers = a.plan.base.numbers.items in
    let term = term_at base_reads a.pool.base in
    let means = Means g.AB.Ring.Algebra.means A.ring_of A.reads_as in
    let means_over = Means g.AB.ExtRing.Algebra.means g.AB.ExtensionBuilder.ext_ring_of A.reads_as in
    let first = subst (λ u. TableMade (IsMade means A.missing b) (term_at base_reads u) numbers c.in_ok-base.base.items (length numbers)) c.base.ensures
    c.in_ok-base.ensures.made in
    let later = table_lasts g.met.AB.Ring.Algebra.laws laws term numbers c.in_ok-base.base.items (length numbers) b d
    (laws.by_growth b d [] c.make_ext_places.ensures.keeps) first in
    let made = planned_roots basis a.pool roots numbers a.plan.base.steps.items a.plan.base.places.items a.plan.base_table.items a.plan.numbers.items
    a.plan.table.items a.roots_in a.planned (IsMade means A.missing d) (IsMade means_over A.missing d) base over
    (subst (λ t. TableMade (IsMade means A.missing d) term numbers t (length numbers)) (sym c.deref-2.ensures.value) later)
    (subst (λ t. TableMade (IsMade means_over A.missing d) (term_at (ext_reads basis) a.pool) a.plan.numbers.items t (length a.plan.numbers.items))
    (sym c.deref-3.ensures.value) c.in_ok-table.ensures.made) in
    let before = c.args.builder.now in
    let grew = laws.joined before b d [] [] c.make_places.ensures.keeps c.make_ext_places.ensures.keeps in
    list_labelled g.met.AB.NamedAirBuilder.named_laws (AssertsRoot means means_over a.plan.base_table.items a.plan.table.items base over) before d
    c.assert_roots.new.builder roots (zero_at_ext_roots basis a.pool roots) c.assert_roots.result grew
    (roots_assert g.met.AB.Ring.Algebra.laws g.met.AB.ExtRing.Algebra.laws laws g.met.AB.ExtensionBuilder.ext_laws a.plan.base_table.items a.plan.table.items
    base over basis a.pool d roots made)
    c.assert_roots.ensures.labels
