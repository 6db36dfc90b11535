use Rattle.air_program.proofs.ExplainedLemmas.{failing-one, failing-none, item_there, item_past}
use Rattle.air_program.proofs.explain.failing_roots.Goals.{in-Some+in_ok-push, in_default}
use Rattle.air_program.proofs.explain.failing_roots.Goals as goal

pub loop-failure-preserved : goal.loop-failure-preserved
loop-failure-preserved g c =
    let roots = c.args.roots.now in
    let i = c.loop-failure.failure-index in
    let f = c.failure-item.result in
    elim c.match-get.branch [
      | in-Some+in_ok-push w ↦ cc (failing-one roots c.args.failures.now i f w.in-Some.root.now c.loop-failure-test.true c.failure-item.is (item_there roots f.constraint w.in-Some.root w.in-Some.ensures.lookup), w.failing-is, w.in_ok-push.ensures.items, c.loop-failure.invariant)
      | in_default w ↦ cc (failing-none roots c.args.failures.now i f c.loop-failure-test.true c.failure-item.is (item_past roots f.constraint w.in_default.ensures.lookup), w.failing-is, c.loop-failure.invariant)
    ]
