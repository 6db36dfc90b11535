use Rattle.std.proofs.Common.{inl}
use Rattle.air_field.specs.Part.{whole}
use Rattle.air_gadgets.proofs.Halves.{half_made}
use Rattle.air_gadgets.proofs.Lending.{one_asserted, one_gives_up}
use Rattle.air_gadgets.proofs.words.rotations.assert_half.Goals as goal

pub returns-in_err-difference : goal.returns-in_err-difference
returns-in_err-difference g c =
    one_gives_up g.met.AB.Ring.Algebra.laws g.met.AB.AirBuilder.laws c.ring.ensures.value c.less_packed.ensures.extended (λ t. t) c.from_residual.ensures.1 (λ t. inl whole)
    (half_made g.AB.F.Field.ring g.AB.Ring.FromVar-1.var_means (g.AB.AirBuilder.reads_as c.args.builder.now) (g.AB.Ring.Algebra.refuses c.in_err-difference.field-0.0) (c.args.limb, c.args.b.now, c.args.c.now) c.in_err-difference.ensures.makes.refused)

pub returns : goal.returns
returns g c =
    one_asserted g.met.AB.Ring.Algebra.laws g.met.AB.AirBuilder.laws c.ring.ensures.value c.less_packed.ensures.extended (λ t. t) c.assert_zero.result
    (half_made g.AB.F.Field.ring g.AB.Ring.FromVar-1.var_means (g.AB.AirBuilder.reads_as c.args.builder.now) (g.AB.Ring.Algebra.means c.less_packed.new.ring c.in_ok-difference.difference) (c.args.limb, c.args.b.now, c.args.c.now) c.in_ok-difference.ensures.makes.made.1)
    c.assert_zero.ensures
