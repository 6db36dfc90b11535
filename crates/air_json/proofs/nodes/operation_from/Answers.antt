use Rattle.std.proofs.Common.{filter_map, Ok, Err, sym, subst}
use Rattle.serde_json.specs.View.{view}
use Rattle.air_symbolic.specs.laws.Pools.{Grown-refl}
use Rattle.air_json.specs.Nodes.{operation_at}
use Rattle.air_json.specs.Results.{as_some, Gives}
use Rattle.air_json.specs.Unshared.{seen_at}
use Rattle.air_json.specs.laws.Lists.{fails_if}
use Rattle.air_json.specs.laws.ReadCalls.{gives_up}
use Rattle.air_json.proofs.NumberTrees.{trees_are, operation_seen}
use Rattle.air_json.proofs.nodes.operation_from.Goals as goal

pub returns-in_err-operands : goal.returns-in_err-operands
returns-in_err-operands g c =
    let A = g.A.WireLeaf in
    let tree = seen_at A.seen c.args.pool.now in
    let ids = c.args.ids.now in
    let trees = filter_map tree ids in
    let d = view c.args.contents.now in
    let fault = c.in_err-operands.field-0.0 in
    let same = operation_seen A.kind tree ids trees (trees_are A.seen c.requires) c.args.operation d (Err fault) c.in_err-operands.ensures.read in
    gives_up fault (Grown-refl _ g.A.SymLeaf.reads g.A.SymLeaf.grows _ g.met.A.SymLeaf.leaf_laws c.args.pool.now) c.from_residual.ensures.1
    (fails_if fault (as_some (operation_at A.kind trees c.args.operation d)) (λ n. sym same))

pub returns : goal.returns
returns g c =
    let A = g.A.WireLeaf in
    let tree = seen_at A.seen c.args.pool.now in
    let ids = c.args.ids.now in
    let trees = filter_map tree ids in
    let d = view c.args.contents.now in
    let same = operation_seen A.kind tree ids trees (trees_are A.seen c.requires) c.args.operation d (Ok c.in_ok-operands.operands) c.in_ok-operands.ensures.read in
    record {
      grown = c.insert_operation.ensures.grown;
      here = c.insert_operation.ensures.here;
      numbered = c.insert_operation.ensures.numbered;
      read = subst (Gives (seen_at A.seen c.insert_operation.new.pool) c.insert_operation.result) same c.insert_operation.ensures.read;
    }
