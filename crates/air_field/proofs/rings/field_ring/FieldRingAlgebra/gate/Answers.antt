use Rattle.std.proofs.Common.{ap, sym, ◌∙◌, Ok}
use Rattle.air_field.specs.laws.Ring.{zero_mul}
use Rattle.air_field.proofs.rings.field_ring.FieldRingAlgebra.gate.Goals as goal

pub returns-then-eq-2 : goal.returns-then-eq-2
returns-then-eq-2 g c =
    let zero = c.ZERO.ensures ∙ g.met.F.Field.zero_is in
    let is_zero = (g.met.F.Field.eq_is c.args.condition c.ZERO.result).0 (sym c.eq-else-eq.ensures ∙ c.if-eq-2.true) ∙ zero in
    ap Ok ((c.ZERO-then-eq-2.ensures ∙ g.met.F.Field.zero_is) ∙ (sym (zero_mul g.F.Field.ring c.args.x) ∙ ap (λ z. g.F.Field.ring.mul z c.args.x) (sym is_zero)))
