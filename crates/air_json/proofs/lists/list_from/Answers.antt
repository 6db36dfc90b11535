use Rattle.std.proofs.Common.{◌≡◌, map, Option, Some, arith, subst, Result}
use Rattle.std.proofs.lemmas.Result.{IfOk-weaker}
use Rattle.serde_json.specs.Data.{array}
use Rattle.serde_json.specs.Find.{as_array}
use Rattle.serde_json.specs.View.{view, items_of, items_view}
use Rattle.air_symbolic.specs.Trees.{Tree}
use Rattle.air_json.specs.Results.{Gives}
use Rattle.air_json.specs.Unshared.{seen_at}
use Rattle.air_json.specs.declared.errors.FlatError.{FlatError}
use Rattle.air_json.specs.laws.Lists.{root_given, same_root}
use Rattle.air_json.proofs.lists.list_from.Goals as goal

pub returns-clause-read : goal.returns-clause-read
returns-clause-read g c =
    let A = g.A.WireLeaf in
    let ds = map view c.deref.result.now in
    let new = c.items_from-list.new.pool in
    let read = c.items_from-list.ensures.read in
    let there : as_array (view c.args.value.now) ≡ Some (items_view c.deref.result.now) = rw c.deref.ensures.value (grind arith) in
    record {
      grown = c.items_from-list.ensures.grown;
      here = c.root.ensures.here new ds read;
      read =
          subst (λ (r : Result (Option (Tree _)) FlatError). Gives (seen_at A.seen new) c.root.result r) (same_root A.kind (view c.args.value.now) (items_of ds) there)
          (root_given A.kind g.met.A.WireLeaf.kind_laws (seen_at A.seen new) (array (items_of ds)) c.root.result (c.root.ensures.root new ds read) (c.root.ensures.fault new ds read));
    }

pub returns-clause-gained : goal.returns-clause-gained
returns-clause-gained g c =
    let A = g.A.WireLeaf in
    let items = c.deref.result.now in
    let there : as_array (view c.args.value.now) ≡ Some (items_view items) = rw c.deref.ensures.value (grind arith) in
    IfOk-weaker c.root.result _ _ (λ i h. (items_view items, there, h))
    (c.root.ensures.gained c.args.pool.now c.items_from-list.new.pool (map view items) c.items_from-list.ensures.read c.items_from-list.ensures.numbered)
