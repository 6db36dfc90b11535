use Rattle.std.proofs.Common.{rules, ◌≡◌}
use Rattle.air_program.specs.Texts.{count_lines, found_in}
use Rattle.air_program.proofs.TextLemmas.{HasLines-more}
use Rattle.air_program.proofs.texts.findings_text.Goals as goal

pub loop-failure-preserved : goal.loop-failure-preserved
loop-failure-preserved g c =
    let items : c.deref-failure-items.result.now ≡ c.args.audit.now.report.failures.items = search rules in
    HasLines-more (count_lines (found_in c.args.audit.now)) _ _ _ c.failure-item.result _ _ items c.loop-failure-test.true c.failure-item.is c.loop-failure.invariant c.in_ok-push_failure.ensures
