use Rattle.std.proofs.Common.{◌≡◌, length, map, take, replicate, None}
use Rattle.std.specs.List.{AllZip}
use Rattle.serde_json.specs.View.{view}
use Rattle.air_json.specs.Unshared.{seen_at}
use Rattle.air_json.specs.Written.{IsWritten}
use Rattle.air_json.proofs.written_lists.lists_of.Given as goal

abbrev pub invariant-loop-id : goal.invariant-loop-id
invariant-loop-id g l =
    let A = g.A.WireLeaf in
    record {
      lists : AllZip (IsWritten A.kind) (map view l.lists.items) (map (seen_at A.seen l.pool) (take l.id-index l.ids));
      empty : l.places.items ≡ replicate (length l.pool.nodes) None;
    }
