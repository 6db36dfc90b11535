use Rattle.std.proofs.Common.{length, ap, arith}
use Rattle.std.proofs.lemmas.List.{length_push}
use Rattle.air_symbolic.specs.BaseLeaves.{base_leaves}
use Rattle.air_audit.proofs.Planning.{one_step_more}
use Rattle.air_audit.proofs.flat.plan.steps_of.Goals as goal

pub loop-id-preserved : goal.loop-id-preserved
loop-id-preserved g c =
    let loop = c.loop-id in
    let k = loop.id-index in
    let ns = c.args.pool.now.nodes in
    let numbers = c.args.numbers.now in
    record {
      within = omega (arith, c.loop-id-test.true);
      long = omega (arith, ap length c.in_ok-push.ensures.ok, length_push loop.steps.items c.step_of.result, loop.invariant.long);
      makes = one_step_more base_leaves ns numbers c.args.places.now k c.id-item.result loop.steps.items c.push.new.items.items c.step_of.result c.node.result.now
          c.in_ok-push.ensures.ok loop.invariant.long loop.invariant.makes c.loop-id-test.true c.id-item.is c.node.ensures (c.requires.before k c.loop-id-test.true) c.step_of.ensures;
    }

pub returns-clause-made : goal.returns-clause-made
returns-clause-made g c =
    let loop = c.loop-id in
    record {
      long = omega (arith, loop.invariant.long, loop.invariant.within, c.loop-id-test.false);
      makes = λ k within. loop.invariant.makes k (omega (arith, within, c.loop-id-test.false));
    }
