use Rattle.air_blake3.specs.Values.{quarter_values, state_values}
use Rattle.air_blake3.proofs.Pushes.{on_ok, pushed_4}
use Rattle.air_blake3.proofs.values.push_state.Goals as goal

pub returns : goal.returns
unfolding state_values
returns g c =
    let R = g.F.Field.ring in
    on_ok c.push_quarter-4.result
    (pushed_4 c.args.values.now.items (quarter_values R c.args.v.q0) (quarter_values R c.args.v.q1) (quarter_values R c.args.v.q2) (quarter_values R c.args.v.q3)
    c.push_quarter.new.values.items c.push_quarter-2.new.values.items c.push_quarter-3.new.values.items c.push_quarter-4.new.values.items
    c.in_ok-push_quarter.ensures c.in_ok-push_quarter-2.ensures c.in_ok-push_quarter-3.ensures)
    c.push_quarter-4.ensures
