use Rattle.std.proofs.Common.{◌≡◌, filter_map, Option, Some, None, ok_or, Err, sym, ap, ◌∙◌}
use Rattle.serde_json.specs.View.{view}
use Rattle.air_symbolic.specs.laws.Pools.{Grown-refl}
use Rattle.air_json.specs.Nodes.{operations, node_of_value}
use Rattle.air_json.specs.Parts.{only_member, find_name}
use Rattle.air_json.specs.Results.{as_some}
use Rattle.air_json.specs.Unshared.{seen_at}
use Rattle.air_json.specs.declared.errors.FlatError.{FlatError}
use Rattle.air_json.specs.declared.errors.FlatError.TheVariants.{Shape}
use Rattle.air_json.specs.laws.Lists.{fails_if}
use Rattle.air_json.specs.laws.ReadCalls.{gives_up}
use Rattle.air_json.specs.laws.Readings.{ok_or_failed}
use Rattle.air_json.proofs.NumberTrees.{trees_length, node_unnamed, node_unknown}
use Rattle.air_json.proofs.nodes.node_from.Goals as goal

refused : {A : Type 0} (o : Option A) (f g : FlatError) → Err f ≡ ok_or o g → g ≡ f
refused o f g e = sym (ok_or_failed o g f (sym e))

pub returns-in_err-name : goal.returns-in_err-name
returns-in_err-name g c =
    let A = g.A.WireLeaf in
    let d = view c.args.value.now in
    let trees = filter_map (seen_at A.seen c.args.pool.now) c.args.ids.now in
    let fault = c.in_err-name.field-0.0 in
    let unnamed : None ≡ only_member d = rw c.in_err-name.ensures.ok_part at c.only_member.ensures in
    let bad =
    node_unnamed A.kind trees d (sym unnamed)
    ∙ ap (λ n. Err (Shape n)) (trees_length A.seen c.requires)
    ∙ ap (λ f. Err f) (refused _ fault (Shape _) c.in_err-name.ensures.value) in
    gives_up fault (Grown-refl _ g.A.SymLeaf.reads g.A.SymLeaf.grows _ g.met.A.SymLeaf.leaf_laws c.args.pool.now) c.from_residual.ensures.1
    (fails_if fault (as_some (node_of_value A.kind trees d)) (λ n. ap (λ r. as_some r) bad))

pub returns-in_err-operation : goal.returns-in_err-operation
returns-in_err-operation g c =
    let A = g.A.WireLeaf in
    let d = view c.args.value.now in
    let trees = filter_map (seen_at A.seen c.args.pool.now) c.args.ids.now in
    let fault = c.in_err-operation.field-0.0 in
    let named : Some (c.in_ok-name.name.now, view c.in_ok-name.contents.now) ≡ only_member d = rw c.in_ok-name.ensures.ok_part at c.only_member.ensures in
    let unknown : find_name operations c.in_ok-name.name.now ≡ None = cc (c.operation_named.ensures, c.in_err-operation.ensures.ok_part) in
    let bad =
    node_unknown A.kind trees d c.in_ok-name.name.now (view c.in_ok-name.contents.now) (sym named)
    (sym c.eq.ensures ∙ c.if-eq.false) unknown
    ∙ ap (λ n. Err (Shape n)) (trees_length A.seen c.requires)
    ∙ ap (λ f. Err f) (refused _ fault (Shape _) c.in_err-operation.ensures.value) in
    gives_up fault (Grown-refl _ g.A.SymLeaf.reads g.A.SymLeaf.grows _ g.met.A.SymLeaf.leaf_laws c.args.pool.now) c.from_residual-in_err-operation.ensures.1
    (fails_if fault (as_some (node_of_value A.kind trees d)) (λ n. ap (λ r. as_some r) bad))
