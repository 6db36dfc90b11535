use Rattle.air_blake3.specs.Values.{bit_values, limb_values, quarter_values}
use Rattle.air_blake3.proofs.Pushes.{on_ok, pushed_4}
use Rattle.air_blake3.proofs.values.push_quarter.Goals as goal

pub returns : goal.returns
unfolding quarter_values
returns g c =
    let R = g.F.Field.ring in
    on_ok c.push_bits-2.result
    (pushed_4 c.args.values.now.items (limb_values R c.args.q.a) (bit_values R c.args.q.b) (limb_values R c.args.q.c) (bit_values R c.args.q.d)
    c.push_limbs.new.values.items c.push_bits.new.values.items c.push_limbs-2.new.values.items c.push_bits-2.new.values.items
    c.in_ok-push_limbs.ensures c.in_ok-push_bits.ensures c.in_ok-push_limbs-2.ensures)
    c.push_bits-2.ensures
