use Rattle.std.proofs.Common.{[], ◌∷◌, ◌++◌, map, filter_map, Ok, Some, refl}
use Rattle.std.proofs.lemmas.List.{map_push}
use Rattle.serde_json.specs.View.{view}
use Rattle.air_json.specs.Nodes.{node_of_value}
use Rattle.air_json.specs.Results.{◌>>=◌}
use Rattle.air_json.specs.Unshared.{seen_at}
use Rattle.air_json.specs.declared.errors.FlatError.TheVariants.{Memory}
use Rattle.air_symbolic.specs.laws.Numbered.{numbered_on}
use Rattle.air_json.specs.laws.ReadCalls.{gives_up_all}
use Rattle.air_json.proofs.Growing.{longer, below_push, map_kept}
use Rattle.air_json.proofs.ListReading.{fails_before, more_given}
use Rattle.air_json.proofs.Loop.{carry}
use Rattle.air_json.proofs.NumberTrees.{trees_are}
use Rattle.air_json.proofs.SeenTrees.{seen_kept}
use Rattle.air_json.proofs.lists.push_node.Goals as goal

pub returns-in_err-id-clause-read : goal.returns-in_err-id-clause-read
returns-in_err-id-clause-read g c =
    let A = g.A.WireLeaf in
    let before = filter_map (seen_at A.seen c.args.pool.now) c.args.ids.now.items in
    let node = node_of_value A.kind before (view c.args.value.now) in
    let bad = rw c.deref.ensures.value at c.in_err-id.ensures.read in
    let fault = c.in_err-id.field-0.0 in
    gives_up_all fault c.node_from.ensures.grown c.from_residual.ensures.1
    (carry fault (node >>= λ t. Ok (before ++ t ∷ [])) (λ ts. Ok (map Some ts)) _ refl
    (carry fault node (λ t. Ok (before ++ t ∷ [])) _ refl (fails_before fault node (λ t. Some t) bad)))

pub returns-in_err-push-clause-read : goal.returns-in_err-push-clause-read
returns-in_err-push-clause-read g c = gives_up_all Memory c.node_from.ensures.grown c.from_residual-in_err-push.ensures.1 tt

pub returns-clause-read : goal.returns-clause-read
returns-clause-read g c =
    let A = g.A.WireLeaf in
    let old = c.args.pool.now in
    let new = c.node_from.new.pool in
    let ids = c.args.ids.now.items in
    let id = c.in_ok-id.id in
    let before = filter_map (seen_at A.seen old) ids in
    let good = rw c.deref.ensures.value at c.in_ok-id.ensures.read in
    let kept = map_kept (seen_at A.seen old) (seen_at A.seen new) _ ids c.requires.ids_in (seen_kept g.A.SymLeaf.reads g.A.SymLeaf.grows A.seen A.kind.term g.met.A.WireLeaf.wire_laws old new c.requires.pool c.node_from.ensures.grown) in
    record {
      grown = c.node_from.ensures.grown;
      here = rw c.in_ok-push.ensures.items (below_push _ _ ids id c.requires.ids_in (longer g.A.SymLeaf.reads g.A.SymLeaf.grows old new c.node_from.ensures.grown) c.in_ok-id.ensures.here);
      read = rw (c.in_ok-push.ensures.items, map_push (seen_at A.seen new) ids id, kept) (more_given A.kind before (view c.args.value.now) (map (seen_at A.seen old) ids) (seen_at A.seen new id) good (trees_are A.seen c.requires));
    }

pub returns-clause-numbered : goal.returns-clause-numbered
returns-clause-numbered g c n h =
    rw c.in_ok-push.ensures.items (numbered_on n _ _ c.args.ids.now.items (c.in_ok-id.id ∷ []) h c.in_ok-id.ensures.numbered)
