use Rattle.std.proofs.Common.{arith}
use Rattle.std.proofs.lemmas.Grind.{common_steps}
use Rattle.air_field.specs.Assignment.{row_assignment}
use Rattle.air_print.specs.Rows.{trace_of}
use Rattle.air_print.proofs.Numbers.{Known-more}
use Rattle.air_print.proofs.values.values_at.Goals as goal

pub loop-number-preserved : goal.loop-number-preserved
loop-number-preserved g c =
    let h = c.loop-number.invariant in
    let r = g.F.Field.ring in
    record {
      places = grind (arith, common_steps);
      known = Known-more r (row_assignment r (trace_of c.args.trace.now) c.args.row) c.args.pool.now.nodes c.args.marks.now c.loop-number.number c.loop-number.values.items c.push.new.self.items c.marked_value-value.result h.places c.in_ok-push.ensures.items h.known c.marked_value-value.ensures;
    }
