use Rattle.std.proofs.Common.{◌≡◌, ◌<◌, [], ◌∷◌, false, length, map, refl, sym, subst, ◌∙◌, arith}
use Rattle.std.proofs.lemmas.Grind.{common_steps}
use Rattle.std.proofs.lemmas.List.{map_push, length-map}
use Rattle.std.proofs.lemmas.List.Elements.{All-nil, All-push}
use Rattle.serde_json.specs.View.{view}
use Rattle.air_json.proofs.Cleared.{without_none, without_more}
use Rattle.air_json.proofs.Progress.{Progress, starts, ends}
use Rattle.air_json.proofs.PoolNodes.{tree_or, is_there, next_smaller, looks_smaller, next_within, next_skips, next_looks, next_ready, next_writes}
use Rattle.air_json.proofs.SeenTrees.{seen_there}
use Rattle.air_json.proofs.written_lists.nodes_of.Goals as goal

pub loop-step-init : goal.loop-step-init
loop-step-init g c =
    let A = g.A.WireLeaf in
    let size = length c.args.places.now.items in
    let z = seen_there g.A.SymLeaf.reads A.seen c.args.pool.now c.requires.pool c.args.root (omega (arith, c.requires.here, c.requires.fits)) in
    let f = tree_or A.seen z.0 c.args.pool.now in
    let start = subst (λ ps. Progress A.kind f size (f c.args.root) ((c.args.root, false) ∷ []) ps []) (sym c.requires.empty) (starts A.kind f size c.args.root c.requires.here) in
    rw (c.in_ok-push.ensures.items, c.new-steps.ensures.items, c.new-written.ensures.items, c.new-items.ensures.items) (z.0, start, without_none c.args.places.now.items, All-nil (λ n. n < size))

pub place_of-requires : goal.place_of-requires
place_of-requires g c =
    let A = g.A.WireLeaf in
    let h = c.loop-step.invariant in
    let here = next_within g.A.SymLeaf.reads g.A.SymLeaf.grows A.seen A.kind g.met.A.WireLeaf.wire_laws h.0 c.args.pool.now c.requires.pool _ _ _ _ _ _ c.in-Some.step c.in-Some.ensures.items h.1 in
    rw c.deref.ensures.value (omega (arith, here, h.1.table.len))

pub loop-step-smaller-then-is_some : goal.loop-step-smaller-then-is_some
loop-step-smaller-then-is_some g c = next_smaller c.args.pool.now _ _ c.in-Some.step c.in-Some.ensures.items

pub loop-step-preserved-then-is_some : goal.loop-step-preserved-then-is_some
loop-step-preserved-then-is_some g c =
    let A = g.A.WireLeaf in
    let h = c.loop-step.invariant in
    let at = rw c.deref.ensures.value at c.place_of.ensures in
    (h.0, next_skips g.A.SymLeaf.reads g.A.SymLeaf.grows A.seen A.kind g.met.A.WireLeaf.wire_laws h.0 c.args.pool.now c.requires.pool _ _ _ _ _ _ c.in-Some.step _ c.in-Some.ensures.items h.1 at (sym c.is_some.ensures ∙ c.if-is_some.true), h.2, h.3)

pub node-node-requires-clause-here : goal.node-node-requires-clause-here
node-node-requires-clause-here g c =
    let A = g.A.WireLeaf in
    let h = c.loop-step.invariant in
    let here = next_within g.A.SymLeaf.reads g.A.SymLeaf.grows A.seen A.kind g.met.A.WireLeaf.wire_laws h.0 c.args.pool.now c.requires.pool _ _ _ _ _ _ c.in-Some.step c.in-Some.ensures.items h.1 in
    omega (arith, here, c.requires.fits)

pub node_value-requires-clause-ready : goal.node_value-requires-clause-ready
node_value-requires-clause-ready g c =
    let A = g.A.WireLeaf in
    let h = c.loop-step.invariant in
    rw (c.base.ensures, c.deref-in-Some.ensures.value) (next_ready g.A.SymLeaf.reads g.A.SymLeaf.grows A.seen A.kind g.met.A.WireLeaf.wire_laws h.0 c.args.pool.now c.requires.pool _ _ _ _ _ _ c.in-Some.step _ c.in-Some.ensures.items c.if-not-ready.false c.node-node.ensures h.1)

pub index_mut-requires : goal.index_mut-requires
index_mut-requires g c =
    let A = g.A.WireLeaf in
    let h = c.loop-step.invariant in
    let here = next_within g.A.SymLeaf.reads g.A.SymLeaf.grows A.seen A.kind g.met.A.WireLeaf.wire_laws h.0 c.args.pool.now c.requires.pool _ _ _ _ _ _ c.in-Some.step c.in-Some.ensures.items h.1 in
    omega (arith, here, h.1.table.len, c.number.ensures, c.loop-step.places.ok.0)

pub loop-step-smaller : goal.loop-step-smaller
loop-step-smaller g c = next_smaller c.args.pool.now _ _ c.in-Some.step c.in-Some.ensures.items

pub loop-step-preserved : goal.loop-step-preserved
loop-step-preserved g c =
    let A = g.A.WireLeaf in
    let h = c.loop-step.invariant in
    let at = rw c.deref.ensures.value at c.place_of.ensures in
    let value = rw (c.base.ensures, c.deref-in-Some.ensures.value) at c.in_ok-value.ensures.written in
    let place : c.len.result ≡ length (map view c.loop-step.items.items) = omega (arith, c.len.ensures, c.loop-step.items.ok.0, length-map c.loop-step.items.items view) in
    let none = sym c.is_some.ensures ∙ c.if-is_some.false in
    let here = next_within g.A.SymLeaf.reads g.A.SymLeaf.grows A.seen A.kind g.met.A.WireLeaf.wire_laws h.0 c.args.pool.now c.requires.pool _ _ _ _ _ _ c.in-Some.step c.in-Some.ensures.items h.1 in
    rw (c.number.ensures, place, c.in_ok-push-2.ensures.items, c.in_ok-push-3.ensures.items, map_push) (
      h.0,
      next_writes g.A.SymLeaf.reads g.A.SymLeaf.grows A.seen A.kind g.met.A.WireLeaf.wire_laws h.0 c.args.pool.now c.requires.pool _ _ _ _ _ _ c.in-Some.step _ _ _ c.requires.fits c.in-Some.ensures.items c.if-not-ready.false at none c.node-node.ensures value h.1,
      without_more c.loop-step.written.items c.in-Some.step.0 _ c.loop-step.places.items c.args.places.now.items _ at none h.2,
      All-push (λ n. n < length c.args.places.now.items) c.loop-step.written.items c.in-Some.step.0 h.3 here,
    )

pub loop-step-smaller-then-not-ready : goal.loop-step-smaller-then-not-ready
loop-step-smaller-then-not-ready g c =
    looks_smaller g.A.SymLeaf.reads c.args.pool.now c.requires.pool _ _ _ c.in-Some.step _ c.in-Some.ensures.items c.if-not-ready.true c.node-node.ensures c.in_ok-push_steps.ensures.pushed

pub loop-step-preserved-then-not-ready : goal.loop-step-preserved-then-not-ready
loop-step-preserved-then-not-ready g c =
    let A = g.A.WireLeaf in
    let h = c.loop-step.invariant in
    (h.0, next_looks g.A.SymLeaf.reads g.A.SymLeaf.grows A.seen A.kind g.met.A.WireLeaf.wire_laws h.0 c.args.pool.now c.requires.pool _ _ _ _ _ _ _ c.in-Some.step _ c.in-Some.ensures.items c.if-not-ready.true c.node-node.ensures c.in_ok-push_steps.ensures.pushed h.1, h.2, h.3)

pub returns-clause-written : goal.returns-clause-written
returns-clause-written g c =
    let A = g.A.WireLeaf in
    let h = c.loop-step.invariant in
    let none : c.loop-step.steps.items ≡ [] = grind (arith, common_steps) in
    record {
      items = map view c.loop-step.items.items;
      root = tree_or A.seen h.0 c.args.pool.now c.args.root;
      tree = is_there g.A.SymLeaf.reads A.seen h.0 c.args.pool.now c.requires.pool c.args.root (omega (arith, c.requires.here, c.requires.fits));
      is = refl;
      of = ends A.kind (tree_or A.seen h.0 c.args.pool.now) _ _ c.loop-step.places.items _ (rw none at h.1);
    }

pub clear_places-requires : goal.clear_places-requires
clear_places-requires g c =
    let h = c.loop-step.invariant in
    λ k d within. omega (arith, h.1.table.len, h.3 k d within)

pub returns-clause-cleared : goal.returns-clause-cleared
returns-clause-cleared g c = c.clear_places.ensures ∙ c.loop-step.invariant.2
