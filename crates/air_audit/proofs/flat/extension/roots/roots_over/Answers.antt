use Rattle.std.proofs.Common.{◌++◌, [], ◌∷◌, ap, sym, ◌∙◌}
use Rattle.air_audit.specs.ExtPlans.{ext_ids}
use Rattle.air_audit.proofs.ExtRoots.{ext_ids-more}
use Rattle.air_audit.proofs.flat.extension.roots.roots_over.Goals as goal

pub loop-root-preserved : goal.loop-root-preserved
loop-root-preserved g c =
    let r = c.root-item.result in
    c.in_ok-push_over.ensures.ok ∙ ap (λ v. v ++ ext_ids (r ∷ [])) c.loop-root.invariant
    ∙ sym (ext_ids-more c.args.roots.now c.loop-root.root-index r c.loop-root-test.true c.root-item.is)
