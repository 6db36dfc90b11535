use Rattle.std.proofs.Common.{◌∙◌, ap}
use Rattle.air_field.specs.laws.Value.{closed_value-embed}
use Rattle.air_field.specs.laws.Extension.{extend-coefficients}
use Rattle.air_field.proofs.rings.ext_field_ring.ExtFieldRingExtAlgebra.TheImpl.Goals as goal

pub lift-tells : goal.lift-tells
lift-tells g c =
    let over = g.EF.ExtensionField.over in
    rw c.ensures
    (record {
      extended = tt;
      made = (tt, λ t h. closed_value-embed g.F.Field.ring over g.met.EF.ExtensionField.over_laws t h.0 ∙ ap over.embed h.1);
      refused = tt;
    })

pub ext_constant-tells : goal.ext_constant-tells
ext_constant-tells g c =
    rw c.ensures (record { extended = tt; made = (tt, extend-coefficients _ _ _ _ g.met.EF.ExtensionField.laws c.args.c); refused = tt })
