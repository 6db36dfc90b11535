use Rattle.std.proofs.Common.{◌∙◌, ap, ap₂}
use Rattle.air_field.specs.Ring.{minus}
use Rattle.air_gadgets.specs.laws.Bits.{andn-image}
use Rattle.air_gadgets.proofs.utils.bits.checked_andn.Goals as goal

pub returns : goal.returns
returns g c m n hm hn ex ey =
    let R = g.F.Field.ring in
    c.mul.ensures
    ∙ (ap (λ u. R.mul u c.args.y) (c.sub.ensures ∙ ap (λ u. minus R u c.args.x) (c.ONE.ensures ∙ g.met.F.Field.one_is))
    ∙ (ap₂ (λ u v. R.mul (minus R R.one u) v) ex ey ∙ andn-image R m n hm hn))
