use Rattle.std.proofs.Common.{◌<◌, arith}
use Rattle.air_gadgets.proofs.Packing.{all_packed}
use Rattle.air_gadgets.proofs.values.packed.PackedExpression.make.Goals as goal

pub returns : goal.returns
returns g c =
    let some : 0 < c.count-count.result = omega (arith, c.if-count-eq0.false) in
    rw (← c.count-count.ensures, ← all_packed g.AB.F.Field.ring.zero (g.S.Series.term_at c.args.self.now.0) c.count-count.result some) c.make_packed.ensures
