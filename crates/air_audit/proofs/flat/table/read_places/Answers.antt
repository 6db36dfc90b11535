use Rattle.std.proofs.Common.{◌≡◌, ◌<◌, length, get_or, slice_get, Some, arith}
use Rattle.std.proofs.lemmas.List.{get_or_default}
use Rattle.air_audit.proofs.Roots.{one_more_read}
use Rattle.air_audit.proofs.flat.table.read_places.Goals as goal

pub loop-place-preserved : goal.loop-place-preserved
loop-place-preserved g c =
    let lt : c.loop-place.place-index < length c.args.places.now = omega arith in
    let p = get_or c.args.places.now c.loop-place.place-index 0 in
    rw c.in_ok-push.ensures.ok (one_more_read (λ x p. slice_get c.args.table.now p ≡ Some x) c.loop-place.expressions.items c.args.places.now c.loop-place.place-index c.expression_at.result p lt (get_or_default c.args.places.now c.loop-place.place-index 0 p lt) c.loop-place.invariant c.expression_at.ensures)
