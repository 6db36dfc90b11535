use Rattle.std.proofs.Common.{◌≡◌, [], length, Some, None, ap, ◌∙◌, arith}
use Rattle.json.specs.Json.{parse_map, after_end_array, items, value}
use Rattle.serde_json.specs.Read.{of_items, converted}
use Rattle.serde_json.specs.View.{items_of}
use Rattle.air_json.specs.BaseLeaves.{element_at}
use Rattle.air_object.specs.Parts.{AreElements}
use Rattle.air_object.specs.Readers.{each_from}
use Rattle.air_object.proofs.PartLemmas.{one_item_more}
use Rattle.air_object.proofs.TokenLemmas.{data_before, data_before-no_items, item_refused, items_over, none_before}
use Rattle.air_object.proofs.parts.read_items.Goals as goal

pub items-init : goal.items-init
unfolding each_from
items-init g c =
    let all = converted of_items (items (value c.args.depth) (length c.args.reader.now) c.args.reader.now) in
    (length c.args.reader.now, omega arith, [], none_before all, omega arith, c.no_elements-elements.ensures.given)

pub returns-in_err-elements-clause-err : goal.returns-in_err-elements-clause-err
returns-in_err-elements-clause-err g c refused =
    let p = value c.args.depth in
    let l = c.items in
    let n = l.invariant.0 in
    let going : (after_end_array l.reader ≡ None) × (c.take_end_array.new.self ≡ l.reader) = grind arith in
    l.invariant.3 ∙ ap (parse_map (data_before l.invariant.2)) (item_refused p n l.reader going.0 (rw (← going.1) (c.read_element.ensures.err (grind arith))))

pub items-preserved : goal.items-preserved
items-preserved g c =
    let p = value c.args.depth in
    let l = c.items in
    let going : (after_end_array l.reader ≡ None) × (c.take_end_array.new.self ≡ l.reader) = grind arith in
    let done = c.in_ok-elements.ensures in
    one_item_more (element_at g.F.PrimeField64.residues 0) (λ given. AreElements given l.elements) (λ given. AreElements given c.in_ok-elements.elements) p _ (length c.args.reader.now) l.invariant.0 l.reader c.read_element.new.reader l.invariant.2 done.ok.0 l.invariant.1 l.invariant.3 l.invariant.4 l.invariant.5 going.0 (rw (← going.1) done.ok.1) (rw (← going.1) done.shorter) done.ok.2

pub returns-clause-ok : goal.returns-clause-ok
returns-clause-ok g c =
    let p = value c.args.depth in
    let l = c.items in
    let r = c.take_end_array.new.self in (
      items_of l.invariant.2,
      l.invariant.3 ∙ ap (parse_map (data_before l.invariant.2)) (items_over p l.invariant.0 l.reader r l.invariant.1 (grind arith))
          ∙ ap (λ ds. Some (ds, r)) (data_before-no_items l.invariant.2),
      l.invariant.5,
    )
