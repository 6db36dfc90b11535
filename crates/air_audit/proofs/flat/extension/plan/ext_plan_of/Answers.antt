use Rattle.std.proofs.Common.{◌≡◌, ◌<◌, ◌++◌, All, inl, inr, ⊎_elim, ap, subst, sym, ◌∙◌}
use Rattle.std.proofs.lemmas.Result.{err_from_is_err_and}
use Rattle.air_core.specs.declared.errors.AirError.TheVariants.{Memory}
use Rattle.air_symbolic.specs.ExtLeaves.{ext_reads}
use Rattle.air_symbolic.specs.Pools.{size}
use Rattle.std.specs.Prelude.{slice_get}
use Rattle.air_symbolic.specs.BaseLeaves.{base_leaves}
use Rattle.air_audit.specs.Plans.{IsPlan}
use Rattle.air_audit.specs.ExtPlans.{base_ids, ext_ids, lifted_ids, made_of_base, SomeRefuses, IsOrder, InWindow, HaveRoots}
use Rattle.air_audit.proofs.ExtRoots.{over_here, made_here, reaches_far}
use Rattle.air_audit.proofs.Planning.{order_here}
use Rattle.air_audit.proofs.flat.extension.plan.ext_plan_of.Goals as goal

pub order_of-requires-clause-here : goal.order_of-requires-clause-here
order_of-requires-clause-here g c =
    let p = c.args.pool.now in
    subst (λ v. All (λ i. i < size p) v) (sym (c.deref.ensures.value ∙ c.in_ok-over.ensures.ids))
    (over_here g.EF.ExtensionField.basis p c.args.roots.now c.requires.here)

pub lifted_by-requires-clause-here : goal.lifted_by-requires-clause-here
lifted_by-requires-clause-here g c =
    let p = c.args.pool.now in
    let both = c.in_ok-numbers in
    subst (λ v. All (λ i. i < size p) v) (sym c.deref-2.ensures.value)
    (order_here (ext_reads g.EF.ExtensionField.basis p.base) p.nodes c.deref.result.now both.numbers.items both.table.items both.ensures.ordered)

pub returns-in_err-made-clause-refused : goal.returns-in_err-made-clause-refused
returns-in_err-made-clause-refused g c =
    let q = err_from_is_err_and c.from_residual-in_err-made.result c.from_residual-in_err-made.ensures.1 in
    let p = c.args.pool.now in
    let e = c.in_err-made.field-0.0 in
    let both = c.in_ok-numbers in
    let basis = g.EF.ExtensionField.basis in
    rw (q.1, q.2)
    (⊎_elim (λ (m : e ≡ Memory). inl m)
    (λ (r : SomeRefuses p.nodes c.deref-2.result.now e).
    inr (reaches_far basis p c.requires.pool c.args.roots.now both.numbers.items both.table.items e
    (subst (λ v. IsOrder (ext_reads basis p.base) p.nodes v both.numbers.items both.table.items) (c.deref.ensures.value ∙ c.in_ok-over.ensures.ids)
    both.ensures.ordered)
    (subst (λ v. SomeRefuses p.nodes v e) c.deref-2.ensures.value r)))
    c.in_err-made.ensures.refused)

pub plan_with_places-requires : goal.plan_with_places-requires
plan_with_places-requires g c =
    let p = c.args.pool.now in
    let both = c.in_ok-numbers in
    let basis = g.EF.ExtensionField.basis in
    let order = order_here (ext_reads basis p.base) p.nodes c.deref.result.now both.numbers.items both.table.items both.ensures.ordered in
    let here = made_here basis p c.requires.pool c.args.roots.now c.deref-2.result.now c.requires.here
    (subst (λ v. All (λ i. i < size p) v) (sym c.deref-2.ensures.value) order) in
    let made = c.deref-3.ensures.value ∙ c.in_ok-push_base_roots.ensures.ok ∙ ap (λ v. v ++ base_ids c.args.roots.now) c.in_ok-made.ensures.ids in
    record { here = subst (λ u. All (λ i. i < size u) c.deref-3.result.now) (sym c.base.ensures) (subst (λ v. All (λ i. i < size p.base) v) (sym made) here) }

pub returns-clause-planned : goal.returns-clause-planned
returns-clause-planned g c =
    let p = c.args.pool.now in
    let roots = c.args.roots.now in
    let both = c.in_ok-numbers in
    let plan = c.in_ok-base in
    let ids : c.deref.result.now ≡ ext_ids roots = c.deref.ensures.value ∙ c.in_ok-over.ensures.ids in
    let made : c.deref-3.result.now ≡ made_of_base p roots both.numbers.items =
    c.deref-3.ensures.value
    ∙ c.in_ok-push_base_roots.ensures.ok
    ∙ ap (λ v. v ++ base_ids roots) (c.in_ok-made.ensures.ids ∙ ap (lifted_ids p.nodes) c.deref-2.ensures.value) in
    record {
      order = subst (λ v. IsOrder (ext_reads g.EF.ExtensionField.basis p.base) p.nodes v both.numbers.items both.table.items) ids both.ensures.ordered;
      window = subst (λ v. All (λ i. InWindow (slice_get p.nodes i)) v) c.deref-2.ensures.value c.in_ok-made.ensures.window;
      base =
          subst (λ v. IsPlan base_leaves p.base.nodes v plan.base.numbers.items plan.base.steps.items plan.base.places.items) made
          (subst (λ u. IsPlan base_leaves u.nodes c.deref-3.result.now plan.base.numbers.items plan.base.steps.items plan.base.places.items) c.base.ensures plan.ensures.planned);
      base_roots =
          subst (λ v. HaveRoots (size p.base) plan.base.numbers.items plan.base_table.items v) made
          (subst (λ u. HaveRoots (size u) plan.base.numbers.items plan.base_table.items c.deref-3.result.now) c.base.ensures plan.ensures.placed);
    }
