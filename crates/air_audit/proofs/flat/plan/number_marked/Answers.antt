use Rattle.std.proofs.Common.{◌<◌, length, arith}
use Rattle.air_audit.proofs.Numbering.{mark_numbered}
use Rattle.air_audit.proofs.flat.plan.number_marked.Goals as goal

pub loop-mark-preserved : goal.loop-mark-preserved
loop-mark-preserved g c =
    let lt : c.loop-mark.mark-index < length c.args.marks.now = omega (arith, c.loop-mark-test.true) in
    rw c.in_ok-push.ensures.ok (mark_numbered c.args.marks.now c.loop-mark.numbers.items c.loop-mark.places.items c.loop-mark.mark-index lt c.loop-mark.invariant c.requires.own c.mark-item.result c.mark-item.is c.len.result (omega (arith, c.len.ensures, c.loop-mark.numbers.ok)) c.push_marked.new.numbers.items c.in_ok-push_marked.ensures.ok)
