use Rattle.std.proofs.Common.{◌≡◌, get_or, None, Some, sym, ap, subst, ◌∙◌}
use Rattle.air_field.specs.Assignment.{row_assignment}
use Rattle.air_field.specs.Ring.{self_algebra}
use Rattle.air_field.specs.Value.{value}
use Rattle.air_symbolic.specs.Nodes.{OperandsBelow}
use Rattle.air_print.specs.Rows.{trace_of}
use Rattle.air_print.specs.Values.{number_value}
use Rattle.air_print.proofs.Numbers.{mark-own, node_value-is}
use Rattle.air_print.proofs.values.marked_value.Goals as goal

pub node-requires-clause-here : goal.node-requires-clause-here
node-requires-clause-here g c = (mark-own c.args.pool.now.nodes c.args.marks.now c.args.number _ c.in-Some.id c.requires.marks c.requires.here c.in-Some.is).1

pub node_value-requires-clause-operands : goal.node_value-requires-clause-operands
node_value-requires-clause-operands g c =
    let own = mark-own c.args.pool.now.nodes c.args.marks.now c.args.number _ c.in-Some.id c.requires.marks c.requires.here c.in-Some.is in
    subst (λ k. OperandsBelow k c.node.result.now) (own.0 ∙ sym c.requires.places) c.node.ensures.below

pub returns-in-Some : goal.returns-in-Some
returns-in-Some g c = λ m.
    let ns = c.args.pool.now.nodes in
    let marks = c.args.marks.now in
    let r = g.F.Field.ring in
    let s = row_assignment r (trace_of c.args.trace.now) c.args.row in
    let own = mark-own ns marks c.args.number _ c.in-Some.id c.requires.marks c.requires.here c.in-Some.is in
    let n = c.node.result.now in
    let marked = subst (λ j. get_or marks j None ≡ Some c.in-Some.id) (sym own.0) own.2 in
    c.node_value.ensures
    ∙ node_value-is r s ns marks c.args.number c.args.values.now n c.requires.before (subst (λ k. OperandsBelow k n) own.0 c.node.ensures.below) (c.requires.marks.operands c.in-Some.id n marked c.node.ensures)
    ∙ ap (value (self_algebra r) s) (sym c.node.ensures.term)
    ∙ ap (number_value r s ns) own.0
