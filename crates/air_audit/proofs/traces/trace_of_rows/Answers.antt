use Rattle.std.proofs.Common.{sym, ◌∙◌}
use Rattle.air_field.specs.Ring.{image}
use Rattle.air_audit.proofs.Rows.{row_pushed, trace_is, not_refused}
use Rattle.air_audit.proofs.traces.trace_of_rows.Goals as goal

pub loop-row-preserved : goal.loop-row-preserved
loop-row-preserved g c =
    row_pushed (image g.F.Field.ring) g.row.N c.args.rows.now c.loop-row.row-index c.row-item.result c.loop-row.values.items c.push_row.new.values.items
    c.loop-row-test.true c.row-item.is c.in_ok-push_row.ensures.whole c.loop-row.invariant c.in_ok-push_row.ensures.pushed

pub returns : goal.returns
returns g c =
    trace_is (image g.F.Field.ring) g.row.N c.args.rows.now c.loop-row.row-index c.loop-row.values.items
    c.requires c.loop-row-test.false c.loop-row.invariant c.in-Ok.trace (sym c.new.ensures ∙ c.in-Ok.is)

pub unreachable-requires : goal.unreachable-requires
unreachable-requires g c =
    not_refused (image g.F.Field.ring) g.row.N c.args.rows.now c.loop-row.row-index c.loop-row.values.items
    c.requires c.loop-row-test.false c.loop-row.invariant c.in-Err.field-0 (sym c.new.ensures ∙ c.in-Err.is)
