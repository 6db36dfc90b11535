use Rattle.std.proofs.Common.{◌≡◌, ◌<◌, length, get_or, ap, arith}
use Rattle.air_audit.proofs.Roots.{one_more_read}
use Rattle.air_audit.proofs.flat.plan.places_of.Goals as goal

pub loop-root-preserved : goal.loop-root-preserved
loop-root-preserved g c =
    let lt : c.loop-root.root-index < length c.args.roots.now = omega arith in
    rw c.in_ok-push.ensures.ok (one_more_read (λ p i. p ≡ get_or c.args.places.now i 0) c.loop-root.found.items c.args.roots.now c.loop-root.root-index _ c.root-item.result lt c.root-item.is c.loop-root.invariant (ap (λ i. get_or c.args.places.now i 0) c.number.ensures))
