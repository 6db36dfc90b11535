use Rattle.air_blake3.specs.Values.{bit_values, four_bits}
use Rattle.air_blake3.proofs.Pushes.{on_ok, pushed_4}
use Rattle.air_blake3.proofs.values.push_four.Goals as goal

pub returns : goal.returns
unfolding four_bits
returns g c =
    let R = g.F.Field.ring in
    on_ok c.push_bits-4.result
    (pushed_4 c.args.values.now.items (bit_values R c.args.a) (bit_values R c.args.b) (bit_values R c.args.c) (bit_values R c.args.d)
    c.push_bits.new.values.items c.push_bits-2.new.values.items c.push_bits-3.new.values.items c.push_bits-4.new.values.items
    c.in_ok-push_bits.ensures c.in_ok-push_bits-2.ensures c.in_ok-push_bits-3.ensures)
    c.push_bits-4.ensures
