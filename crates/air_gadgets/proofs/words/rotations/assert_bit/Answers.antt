use Rattle.std.proofs.Common.{inl}
use Rattle.air_field.specs.Part.{whole, in_mul_left}
use Rattle.air_field.specs.Term.{with_leaves}
use Rattle.air_field.specs.Algebra.{bool_check_term}
use Rattle.air_gadgets.proofs.Lending.{one_asserted, one_gives_up}
use Rattle.air_gadgets.proofs.words.rotations.assert_bit.Goals as goal

pub returns-in_err-element : goal.returns-in_err-element
returns-in_err-element g c =
    one_gives_up g.met.AB.Ring.Algebra.laws g.met.AB.AirBuilder.laws {r = c.from_var.new.self} c.ring.ensures.value c.from_var.ensures.extended (bool_check_term g.AB.F.Field.ONE) c.from_residual.ensures.1 (λ t. inl (in_mul_left whole))
    (λ s h. (h.0, c.in_err-element.ensures.refused (with_leaves (g.AB.AirBuilder.reads_as c.args.builder.now) h.0) h.1, h.2))

pub returns : goal.returns
returns g c =
    one_asserted g.met.AB.Ring.Algebra.laws g.met.AB.AirBuilder.laws c.ring.ensures.value c.from_var.ensures.extended (bool_check_term g.AB.F.Field.ONE) c.assert_bool.result
    (λ s h. (h.0, c.in_ok-element.ensures.made.1 (with_leaves (g.AB.AirBuilder.reads_as c.args.builder.now) h.0) h.1, h.2))
    c.assert_bool.ensures
