use Rattle.std.proofs.Common.{ap, sym, ◌∙◌, Ok}
use Rattle.air_field.proofs.BitValues.{xor_of_bits}
use Rattle.air_field.proofs.rings.field_ring.FieldRingAlgebra.xor.Goals as goal

pub returns-then-is_bit-2 : goal.returns-then-is_bit-2
returns-then-is_bit-2 g c =
    let x = c.args.x in
    let y = c.args.y in
    let same = g.met.F.Field.eq_is x y in
    ap Ok (c.from_bool.ensures
    ∙ xor_of_bits g.F.Field.ring x y (c.is_bit.ensures.0 c.if-is_bit.true) (c.is_bit-then-is_bit.ensures.0 c.if-is_bit-2.true)
    c.eq.result (λ h. same.0 (sym c.eq.ensures ∙ h), λ h. c.eq.ensures ∙ same.1 h))
