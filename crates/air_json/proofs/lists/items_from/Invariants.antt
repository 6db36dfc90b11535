use Rattle.std.proofs.Common.{length, map, take}
use Rattle.serde_json.specs.View.{view}
use Rattle.air_symbolic.specs.Pools.{Grown}
use Rattle.air_json.specs.ListReaders.{HasRead, IsNumbered}
use Rattle.air_json.specs.Unshared.{seen_at}
use Rattle.air_json.proofs.lists.items_from.Given as goal

-- the items so far have been read
abbrev pub invariant-loop-item : goal.invariant-loop-item
invariant-loop-item g l =
    let A = g.A.WireLeaf in
    record {
      grown : Grown g.A.SymLeaf.grows g.A.SymLeaf.reads l.initial.pool l.pool;
      read : HasRead A.kind (seen_at A.seen) l.pool (map view (take l.item-index l.items)) l.list;
      numbered : IsNumbered (length l.initial.pool.nodes) l.list (length l.pool.nodes);
    }
