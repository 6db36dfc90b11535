use Rattle.std.proofs.Common.{◌≡◌, [], length, Some, None, refl, ap, ◌∙◌, arith}
use Rattle.std.proofs.lemmas.Result.{IfOk-weaker}
use Rattle.json.specs.Json.{parse_map, after_end_array, items, value}
use Rattle.serde_json.specs.Data.{array}
use Rattle.serde_json.specs.Read.{of_items, converted}
use Rattle.serde_json.specs.View.{view, items_of}
use Rattle.air_symbolic.specs.BaseLeaves.{base_reads, base_grows}
use Rattle.air_symbolic.specs.laws.BaseLeaves.{base_leaf_laws}
use Rattle.air_symbolic.specs.laws.Pools.{Grown-refl}
use Rattle.air_field.specs.Modular.{modular_ring}
use Rattle.air_object.proofs.Gains.{list_gains}
use Rattle.air_object.proofs.PartLemmas.{item_taken}
use Rattle.air_object.proofs.TokenLemmas.{data_before, data_before-no_items, item_refused, items_over, none_before}
use Rattle.air_object.proofs.Trees.{grown_on, tree_given}
use Rattle.air_object.proofs.parts.read_nodes.Goals as goal

pub items-init : goal.items-init
items-init g c =
    let all = converted of_items (items (value c.args.depth) (length c.args.reader.now) c.args.reader.now) in
    let ring = modular_ring g.F.PrimeField64.residues in
    (length c.args.reader.now, omega arith, [], none_before all, omega arith, Grown-refl ring base_reads base_grows tt (base_leaf_laws ring) c.args.pool.now, c.new-list.ensures.read c.args.pool.now, rw c.new-list.ensures.empty refl)

pub returns-in_err-item-clause-err : goal.returns-in_err-item-clause-err
returns-in_err-item-clause-err g c refused =
    let p = value c.args.depth in
    let l = c.items in
    let n = l.invariant.0 in
    let going : (after_end_array l.reader ≡ None) × (c.take_end_array.new.self ≡ l.reader) = grind arith in
    l.invariant.3 ∙ ap (parse_map (data_before l.invariant.2)) (item_refused p n l.reader going.0 (rw (← going.1) (c.read.ensures.err (grind arith))))

pub items-preserved : goal.items-preserved
items-preserved g c =
    let p = value c.args.depth in
    let l = c.items in
    let going : (after_end_array l.reader ≡ None) × (c.take_end_array.new.self ≡ l.reader) = grind arith in
    let done = c.in_ok-item.ensures in
    let turn = item_taken p _ (length c.args.reader.now) l.invariant.0 l.reader c.read.new.reader l.invariant.2 (view c.in_ok-item.item) l.invariant.1 l.invariant.3 l.invariant.4 going.0 (rw (← going.1) done.ok) (rw (← going.1) done.shorter) in
    (turn.0, turn.1, _, turn.2, turn.3, grown_on g.F.PrimeField64.residues c.args.pool.now l.pool c.read_node.new.pool l.invariant.5 c.read_node.ensures.grown, c.read_node.ensures.read l.invariant.2 l.invariant.6, c.read_node.ensures.numbered _ l.invariant.7)

pub items-preserved-in_ok-item : goal.items-preserved-in_ok-item
items-preserved-in_ok-item g c =
    let p = value c.args.depth in
    let l = c.items in
    let going : (after_end_array l.reader ≡ None) × (c.take_end_array.new.self ≡ l.reader) = grind arith in
    let done = c.in_ok-item.ensures in
    let turn = item_taken p _ (length c.args.reader.now) l.invariant.0 l.reader c.read.new.reader l.invariant.2 (view c.in_ok-item.item) l.invariant.1 l.invariant.3 l.invariant.4 going.0 (rw (← going.1) done.ok) (rw (← going.1) done.shorter) in
    (turn.0, turn.1, _, turn.2, turn.3, grown_on g.F.PrimeField64.residues c.args.pool.now l.pool c.read_node.new.pool l.invariant.5 c.read_node.ensures.grown, c.read_node.ensures.read l.invariant.2 l.invariant.6, c.read_node.ensures.numbered _ l.invariant.7)

pub items-preserved-in_ok-item-2 : goal.items-preserved-in_ok-item-2
items-preserved-in_ok-item-2 g c =
    let p = value c.args.depth in
    let l = c.items in
    let going : (after_end_array l.reader ≡ None) × (c.take_end_array.new.self ≡ l.reader) = grind arith in
    let done = c.in_ok-item.ensures in
    let turn = item_taken p _ (length c.args.reader.now) l.invariant.0 l.reader c.read.new.reader l.invariant.2 (view c.in_ok-item.item) l.invariant.1 l.invariant.3 l.invariant.4 going.0 (rw (← going.1) done.ok) (rw (← going.1) done.shorter) in
    (turn.0, turn.1, _, turn.2, turn.3, grown_on g.F.PrimeField64.residues c.args.pool.now l.pool c.read_node.new.pool l.invariant.5 c.read_node.ensures.grown, c.read_node.ensures.read l.invariant.2 l.invariant.6, c.read_node.ensures.numbered _ l.invariant.7)

pub items-preserved-in_ok-item-3 : goal.items-preserved-in_ok-item-3
items-preserved-in_ok-item-3 g c =
    let p = value c.args.depth in
    let l = c.items in
    let going : (after_end_array l.reader ≡ None) × (c.take_end_array.new.self ≡ l.reader) = grind arith in
    let done = c.in_ok-item.ensures in
    let turn = item_taken p _ (length c.args.reader.now) l.invariant.0 l.reader c.read.new.reader l.invariant.2 (view c.in_ok-item.item) l.invariant.1 l.invariant.3 l.invariant.4 going.0 (rw (← going.1) done.ok) (rw (← going.1) done.shorter) in
    (turn.0, turn.1, _, turn.2, turn.3, grown_on g.F.PrimeField64.residues c.args.pool.now l.pool c.read_node.new.pool l.invariant.5 c.read_node.ensures.grown, c.read_node.ensures.read l.invariant.2 l.invariant.6, c.read_node.ensures.numbered _ l.invariant.7)

pub returns-clause-ok : goal.returns-clause-ok
returns-clause-ok g c =
    let p = value c.args.depth in
    let l = c.items in
    let ds = l.invariant.2 in
    let r = c.take_end_array.new.self in (
      items_of ds,
      l.invariant.3 ∙ ap (parse_map (data_before ds)) (items_over p l.invariant.0 l.reader r l.invariant.1 (grind arith))
          ∙ ap (λ es. Some (es, r)) (data_before-no_items ds),
      record {
        grown = l.invariant.5;
        here = c.root.ensures.here l.pool ds l.invariant.6;
        read = tree_given g.F.PrimeField64.residues l.pool (array (items_of ds)) c.root.result (c.root.ensures.root l.pool ds l.invariant.6) (c.root.ensures.fault l.pool ds l.invariant.6);
      },
      IfOk-weaker c.root.result _ _ (λ _ h. list_gains g.F.PrimeField64.residues c.args.pool.now l.pool (array (items_of ds)) (items_of ds) l.invariant.5 (l.invariant.5.pool c.nodes_fit.ensures) refl h)
          (c.root.ensures.gained c.args.pool.now l.pool ds l.invariant.6 l.invariant.7),
    )
