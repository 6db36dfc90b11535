use Rattle.std.proofs.Common.{◌<◌, length, subst, ◌∙◌, arith}
use Rattle.serde_json.specs.View.{view}
use Rattle.air_json.specs.Unshared.{seen_at}
use Rattle.air_json.specs.Written.{IsWritten}
use Rattle.air_json.proofs.Cleared.{zip_more}
use Rattle.air_json.proofs.written_lists.lists_of.Goals as goal

pub loop-id-preserved : goal.loop-id-preserved
loop-id-preserved g c =
    let A = g.A.WireLeaf in
    let lt : c.loop-id.id-index < length c.args.ids.now = omega arith in
    let i = c.id-item.result in
    let written = subst (λ n. IsWritten A.kind (view c.from.result) (seen_at A.seen c.args.pool.now n)) c.id-item.is (rw c.from.ensures c.in_ok-items.ensures.written) in
    record {
      lists = rw c.in_ok-push.ensures.items (zip_more (IsWritten A.kind) view (seen_at A.seen c.args.pool.now) c.loop-id.lists.items c.args.ids.now c.from.result c.loop-id.id-index i lt c.loop-id.invariant.lists written);
      empty = c.in_ok-items.ensures.cleared ∙ c.loop-id.invariant.empty;
    }
