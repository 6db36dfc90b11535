use Rattle.std.proofs.Common.{◌++◌, [], ◌∷◌, take, ap, sym, ◌∙◌}
use Rattle.std.proofs.lemmas.List.{append_assoc}
use Rattle.air_audit.specs.ExtPlans.{base_ids}
use Rattle.air_audit.proofs.ExtRoots.{base_ids-more}
use Rattle.air_audit.proofs.flat.extension.roots.push_base_roots.Goals as goal

pub loop-root-preserved : goal.loop-root-preserved
loop-root-preserved g c =
    let r = c.root-item.result in
    let old = c.args.ids.now.items in
    let roots = c.args.roots.now in
    let k = c.loop-root.root-index in
    c.in_ok-push_base.ensures.ok ∙ ap (λ v. v ++ base_ids (r ∷ [])) c.loop-root.invariant
    ∙ append_assoc old (base_ids (take k roots)) (base_ids (r ∷ []))
    ∙ ap (λ v. old ++ v) (sym (base_ids-more roots k r c.loop-root-test.true c.root-item.is))
