use Rattle.std.proofs.Common.{◌≡◌, ◌++◌, slice_get, inl, inr, ⊎_elim, ap, subst, sym, ◌∙◌}
use Rattle.std.proofs.lemmas.List.{get_or_default}
use Rattle.std.proofs.lemmas.Result.{err_from_is_err_and}
use Rattle.air_core.specs.declared.errors.AirError.TheVariants.{Memory}
use Rattle.air_audit.specs.ExtPlans.{lifted_of, InWindow, RefusesNode, RefusesAt}
use Rattle.air_audit.proofs.ExtRoots.{lifted_ids-more, all_more}
use Rattle.air_audit.proofs.flat.extension.roots.lifted_by.Goals as goal

pub returns-in_err-push_lifted-clause-refused : goal.returns-in_err-push_lifted-clause-refused
returns-in_err-push_lifted-clause-refused g c =
    let p = err_from_is_err_and c.from_residual.result c.from_residual.ensures.1 in
    let ns = c.args.pool.now.nodes in
    let k = c.loop-id.id-index in
    let e = c.in_err-push_lifted.field-0.0 in
    let i = c.id-item.result in
    let at = get_or_default c.args.numbers.now k 0 i c.loop-id-test.true ∙ sym c.id-item.is in
    rw (p.1, p.2)
    (⊎_elim (λ (m : e ≡ Memory). inl m)
    (λ (r : RefusesNode c.node.result.now e).
    inr (k, c.loop-id-test.true, subst (λ j. RefusesAt (slice_get ns j) e) (sym at) (subst (λ o. RefusesAt o e) (sym c.node.ensures.node) r)))
    c.in_err-push_lifted.ensures.refused)

pub loop-id-preserved : goal.loop-id-preserved
loop-id-preserved g c =
    let ns = c.args.pool.now.nodes in
    let numbers = c.args.numbers.now in
    let k = c.loop-id.id-index in
    let i = c.id-item.result in
    let n = c.node.result.now in
    record {
      ids = c.in_ok-push_lifted.ensures.ok ∙ ap (λ v. v ++ lifted_of n) c.loop-id.invariant.ids
          ∙ sym (lifted_ids-more ns numbers k i n c.loop-id-test.true c.id-item.is c.node.ensures.node);
      window = all_more (λ j. InWindow (slice_get ns j)) numbers k i c.loop-id-test.true c.id-item.is c.loop-id.invariant.window
          (subst InWindow (sym c.node.ensures.node) c.in_ok-push_lifted.ensures.window);
    }
