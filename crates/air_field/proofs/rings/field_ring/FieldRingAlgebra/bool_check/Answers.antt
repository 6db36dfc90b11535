use Rattle.std.proofs.Common.{ap, sym, ◌∙◌, Ok}
use Rattle.air_field.specs.Ring.{minus}
use Rattle.air_field.proofs.BitValues.{check_of_bit}
use Rattle.air_field.proofs.rings.field_ring.FieldRingAlgebra.bool_check.Goals as goal

pub returns-then-is_bit : goal.returns-then-is_bit
returns-then-is_bit g c =
    let R = g.F.Field.ring in
    let x = c.args.x in
    ap Ok (c.ZERO.ensures ∙ g.met.F.Field.zero_is ∙ check_of_bit R x (c.is_bit.ensures.0 c.if-is_bit.true) ∙ ap (λ one. R.mul x (minus R x one)) (sym g.met.F.Field.one_is))
