use Rattle.air_blake3.specs.Values.{four_bits, output_values}
use Rattle.air_blake3.proofs.Pushes.{on_ok, pushed_4}
use Rattle.air_blake3.proofs.values.push_output.Goals as goal

pub returns : goal.returns
unfolding output_values
returns g c =
    let R = g.F.Field.ring in
    let o = c.args.o in
    on_ok c.push_four-4.result
    (pushed_4 c.args.values.now.items (four_bits R o.q0.a o.q1.a o.q2.a o.q3.a) (four_bits R o.q0.b o.q1.b o.q2.b o.q3.b) (four_bits R o.q0.c o.q1.c o.q2.c o.q3.c) (four_bits R o.q0.d o.q1.d o.q2.d o.q3.d)
    c.push_four.new.values.items c.push_four-2.new.values.items c.push_four-3.new.values.items c.push_four-4.new.values.items
    c.in_ok-push_four.ensures c.in_ok-push_four-2.ensures c.in_ok-push_four-3.ensures)
    c.push_four-4.ensures
