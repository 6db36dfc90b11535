use Rattle.std.specs.List.{AllZip}
use Rattle.std.proofs.Common.{◌≡◌, ◌≢◌, ◌<◌, ◌∙◌, ⊎_elim, eqb, ◌==◌, ℕ, List, zero, suc, true, false, [], ◌∷◌, map, length, get_or, All, Ok, arith, refl, sym, subst}
use Rattle.std.proofs.lemmas.Bool.Decides.{eqb_tells}
use Rattle.std.proofs.lemmas.List.{length-map}
use Rattle.std.proofs.lemmas.List.Elements.{All-map}
use Rattle.std.proofs.lemmas.Result.{err_from_is_err_and}
use Rattle.air_symbolic.specs.BaseLeaves.{base_leaves, base_reads}
use Rattle.air_symbolic.specs.Pools.{term_at}
use Rattle.air_builder.specs.Assertion.{Base}
use Rattle.air_builder.specs.Builders.{Means}
use Rattle.air_builder.specs.Refusals.{PartOf, EachLeaf}
use Rattle.air_builder.specs.Batches.{AssertedList, OrMemory}
use Rattle.air_builder.specs.Labels.{LabelledBy}
use Rattle.air_builder.specs.laws.LabelGrowth.{none_labelled, list_labelled}
use Rattle.air_audit.specs.RootLabels.{RootSays}
use Rattle.air_audit.specs.Plans.{number_at}
use Rattle.air_audit.specs.Tables.{IsMade, HasAt, AssertsAt}
use Rattle.air_audit.proofs.Asserting.{each_asserts, made_has, none_asserted, roots_asserted, making_refused}
use Rattle.air_audit.proofs.Making.{there_before}
use Rattle.air_audit.proofs.Roots.{all_of_map}
use Rattle.air_audit.proofs.Needed.{planned_terms, plan_of_places}
use Rattle.air_audit.proofs.flat.flat_air.FlatAirFAir.eval.Goals as goal

zero_by_test : (n : ℕ) → true ≡ (n == 0) → n ≡ 0
zero_by_test n e =
    ⊎_elim (λ (h : (eqb n 0 ≡ true) × (n ≡ 0)). h.1) (λ (h : (eqb n 0 ≡ false) × (n ≢ 0)). absurd (cc (e ∙ h.0))) (eqb_tells n 0)

none_there : {A : Type 0} (xs : List A) → length xs ≡ 0 → xs ≡ []
none_there [] e = refl
none_there (x ∷ xs) e = absurd (omega (arith, e))

pub returns-then-is_empty-clause-evaluated : goal.returns-then-is_empty-clause-evaluated
returns-then-is_empty-clause-evaluated g c =
    let A = g.AB.AirBuilder in
    let a = c.args.self.now in
    let b = c.args.builder.now in
    let none = zero_by_test _ c.if-is_empty.ensures in
    let short : length a.roots.items ≡ 0 = omega (arith, none) in
    subst (λ xs. AssertedList A.kept A.grew A.missing (OrMemory A.refuses) b b (Ok tt) (map (λ t. Base t) (map (term_at base_reads a.pool) xs)))
    (sym (none_there a.roots.items short)) (none_asserted g.met.AB.Ring.Algebra.laws g.met.AB.AirBuilder.laws b)

pub make_places-requires-clause-planned : goal.make_places-requires-clause-planned
make_places-requires-clause-planned g c =
    let a = c.args.self.now in
    plan_of_places base_leaves a.pool.nodes a.roots.items a.plan.numbers.items a.plan.steps.items a.plan.places.items a.planned

not_none : (n : ℕ) → false ≡ (n == 0) → 0 < n
not_none zero e = cc
not_none (suc n) e = omega arith

pub returns-in_err-table-clause-evaluated : goal.returns-in_err-table-clause-evaluated
returns-in_err-table-clause-evaluated g c =
    let p = err_from_is_err_and c.from_residual.result c.from_residual.ensures.1 in
    let a = c.args.self.now in
    let term = term_at base_reads a.pool in
    let at = λ (q : ℕ). term (number_at a.plan.numbers.items q) in
    let same = planned_terms term a.plan.numbers.items a.plan.places.items a.roots.items a.planned.stand in
    let len = length-map a.roots.items term in
    let some : 0 < length (map term a.roots.items) = omega (arith, len, not_none _ c.if-is_empty.ensures) in
    rw (p.1, p.2)
    (making_refused g.met.AB.Ring.Algebra.laws g.met.AB.AirBuilder.laws _ c.make_places.new.builder c.in_err-table.field-0.0 (map term a.roots.items) some c.make_places.ensures.keeps
    (λ ss all. c.in_err-table.ensures.refused ss (all_of_map (λ t. PartOf t ss) at a.plan.places.items (subst (λ us. All (λ t. PartOf t ss) us) (sym same) all))))

pub assert_places-requires-clause-of_ring : goal.assert_places-requires-clause-of_ring
assert_places-requires-clause-of_ring g c =
    let A = g.AB.AirBuilder in
    let plan = c.args.self.now.plan in
    let term = term_at base_reads c.args.self.now.pool in
    let b = c.make_places.new.builder in
    subst (λ t. All (HasAt (g.AB.Ring.Algebra.has (A.ring_of b)) t) c.deref-2.result.now) (sym c.deref.ensures.value)
    (subst (λ v. All (HasAt (g.AB.Ring.Algebra.has (A.ring_of b)) c.in_ok-table.table.items) v) (sym c.deref-2.ensures.value)
    (λ k d lt.
    let p = get_or plan.places.items k d in
    made_has g.met.AB.Ring.Algebra.laws g.met.AB.AirBuilder.laws b (term (number_at plan.numbers.items p)) c.in_ok-table.table.items p (c.in_ok-table.ensures.made p (c.args.self.now.planned.within k d lt))))

pub returns-clause-evaluated : goal.returns-clause-evaluated
returns-clause-evaluated g c =
    let A = g.AB.AirBuilder in
    let a = c.args.self.now in
    let plan = a.plan in
    let laws = g.met.AB.AirBuilder.laws in
    let b = c.make_places.new.builder in
    let term = term_at base_reads a.pool in
    let at = λ (q : ℕ). term (number_at plan.numbers.items q) in
    let means = Means g.AB.Ring.Algebra.means A.ring_of A.reads_as in
    let same = planned_terms term plan.numbers.items plan.places.items a.roots.items a.planned.stand in
    let table = c.in_ok-table.table.items in
    let made : All (λ p. HasAt (IsMade means A.missing b (at p)) table p) plan.places.items = λ k d lt. c.in_ok-table.ensures.made (get_or plan.places.items k d) (a.planned.within k d lt) in
    let each = subst (λ us. AllZip (AssertsAt means table b) plan.places.items (map (λ t. Base t) us)) same (each_asserts means A.missing b table at plan.places.items made) in
    let there = subst (λ us. All (λ t. EachLeaf (λ l. A.missing c.args.builder.now l → ⊥) t) us) same
    (All-map (EachLeaf (λ l. A.missing c.args.builder.now l → ⊥)) at plan.places.items (λ k d lt. let x = made k d lt in there_before g.met.AB.Ring.Algebra.laws laws c.args.builder.now b (at (get_or plan.places.items k d)) x.0 (laws.by_growth _ _ [] c.make_places.ensures.keeps) x.2)) in
    let asserted = rw (c.deref.ensures.value, c.deref-2.ensures.value) at c.assert_places.ensures.asserted in
    roots_asserted g.met.AB.Ring.Algebra.laws laws c.args.builder.now b c.assert_places.new.builder table plan.places.items (map term a.roots.items) c.assert_places.result c.make_places.ensures.keeps each there asserted

pub returns-then-is_empty-clause-labelled : goal.returns-then-is_empty-clause-labelled
returns-then-is_empty-clause-labelled g c =
    let a = c.args.self.now in
    let b = c.args.builder.now in
    let none = zero_by_test _ c.if-is_empty.ensures in
    let short : length a.roots.items ≡ 0 = omega (arith, none) in
    subst (λ xs. LabelledBy g.AB.NamedAirBuilder.labelled (RootSays a.labels.items) b b (map (λ t. Base t) (map (term_at base_reads a.pool) xs)))
    (sym (none_there a.roots.items short)) (none_labelled g.met.AB.NamedAirBuilder.named_laws b (g.met.AB.AirBuilder.laws.same b))

pub returns-in_err-table-clause-labelled : goal.returns-in_err-table-clause-labelled
returns-in_err-table-clause-labelled g c =
    let p = err_from_is_err_and c.from_residual.result c.from_residual.ensures.1 in
    rw p.1 tt

pub returns-clause-labelled : goal.returns-clause-labelled
returns-clause-labelled g c =
    let A = g.AB.AirBuilder in
    let a = c.args.self.now in
    let plan = a.plan in
    let b = c.make_places.new.builder in
    let term = term_at base_reads a.pool in
    let at = λ (q : ℕ). term (number_at plan.numbers.items q) in
    let means = Means g.AB.Ring.Algebra.means A.ring_of A.reads_as in
    let same = planned_terms term plan.numbers.items plan.places.items a.roots.items a.planned.stand in
    let table = c.in_ok-table.table.items in
    let made : All (λ p. HasAt (IsMade means A.missing b (at p)) table p) plan.places.items = λ k d lt. c.in_ok-table.ensures.made (get_or plan.places.items k d) (a.planned.within k d lt) in
    let each = subst (λ us. AllZip (AssertsAt means table b) plan.places.items (map (λ t. Base t) us)) same (each_asserts means A.missing b table at plan.places.items made) in
    let labels = rw (c.deref.ensures.value, c.deref-2.ensures.value, c.deref-3.ensures.value) at c.assert_places.ensures.labels in
    list_labelled g.met.AB.NamedAirBuilder.named_laws (AssertsAt means table) c.args.builder.now b c.assert_places.new.builder plan.places.items
    (map (λ t. Base t) (map term a.roots.items)) c.assert_places.result c.make_places.ensures.keeps each labels
