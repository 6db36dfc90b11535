use Rattle.std.proofs.Common.{[], ◌∷◌, ◌++◌, map, take, take_all, refl, sym, ap, subst, ◌∙◌}
use Rattle.std.proofs.lemmas.List.{map_more}
use Rattle.serde_json.specs.View.{view}
use Rattle.air_symbolic.specs.laws.Pools.{Grown-refl, Grown-trans}
use Rattle.air_json.specs.ListReaders.{HasRead}
use Rattle.air_json.specs.Unshared.{seen_at}
use Rattle.air_json.proofs.lists.items_from.Goals as goal

pub loop-item-init : goal.loop-item-init
loop-item-init g c = record {
  grown = Grown-refl _ g.A.SymLeaf.reads g.A.SymLeaf.grows _ g.met.A.SymLeaf.leaf_laws c.args.pool.now;
  read = c.new-list.ensures.read c.args.pool.now;
  numbered = rw c.new-list.ensures.empty refl;
}

pub loop-item-preserved : goal.loop-item-preserved
loop-item-preserved g c =
    let A = g.A.WireLeaf in
    let old = c.loop-item.pool in
    let new = c.read_node.new.pool in
    let items = c.args.items.now in
    let i = c.loop-item.item-index in
    let item = c.item-item.result in
    let so_far = map_more view items i item c.loop-item-test.true ∙ ap (λ v. map view (take i items) ++ view v ∷ []) (sym c.item-item.is) in
    record {
      grown = Grown-trans _ g.A.SymLeaf.reads g.A.SymLeaf.grows _ g.met.A.SymLeaf.leaf_laws c.args.pool.now old new c.loop-item.invariant.grown c.read_node.ensures.grown;
      read = subst (λ ds. HasRead A.kind (seen_at A.seen) new ds c.read_node.new.self) (sym so_far) (c.read_node.ensures.read (map view (take i items)) c.loop-item.invariant.read);
      numbered = c.read_node.ensures.numbered _ c.loop-item.invariant.numbered;
    }

pub returns : goal.returns
returns g c =
    let A = g.A.WireLeaf in
    let items = c.args.items.now in
    record {
      grown = c.loop-item.invariant.grown;
      read = subst (λ vs. HasRead A.kind (seen_at A.seen) c.loop-item.pool (map view vs) c.loop-item.list) (take_all c.loop-item.item-index items c.loop-item-test.false) c.loop-item.invariant.read;
      numbered = c.loop-item.invariant.numbered;
    }
