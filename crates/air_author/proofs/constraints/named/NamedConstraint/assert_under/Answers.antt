use Rattle.std.proofs.Common.{inl, refl}
use Rattle.std.proofs.lemmas.Result.{err_from_is_err_and}
use Rattle.air_field.specs.Part.{whole}
use Rattle.air_builder.specs.Assertion.{Base}
use Rattle.air_author.specs.laws.Asserting.{making_gives_up, made_then_zero}
use Rattle.air_author.proofs.Naming.{made_then_labelled, made_then_refused}
use Rattle.air_author.specs.laws.Making.{made_in_ring}
use Rattle.air_author.proofs.constraints.named.NamedConstraint.assert_under.Goals as goal

pub returns-in_err-x-clause-asserted : goal.returns-in_err-x-clause-asserted
returns-in_err-x-clause-asserted g c = making_gives_up g.met.AB.AirBuilder.laws _ (inl whole) c.from_residual.ensures.1 c.in_err-x.ensures

pub returns-in_err-x-clause-labelled : goal.returns-in_err-x-clause-labelled
returns-in_err-x-clause-labelled g c =
    let p = err_from_is_err_and c.from_residual.result c.from_residual.ensures.1 in
    rw p.1 tt

pub returns-in_err-x-clause-no_label : goal.returns-in_err-x-clause-no_label
returns-in_err-x-clause-no_label g c =
    let p = err_from_is_err_and c.from_residual.result c.from_residual.ensures.1 in
    rw (p.1, p.2) (g.met.AB.NamedAirBuilder.named_laws.labelled_nothing _ _ c.in_err-x.ensures.keeps)

pub returns-clause-asserted : goal.returns-clause-asserted
returns-clause-asserted g c = made_then_zero g.met.AB.AirBuilder.laws Base _ _ _ _ c.assert_zero_named.result _ c.in_ok-x.ensures c.assert_zero_named.ensures.asserted (λ h. (h, tt))

pub returns-clause-labelled : goal.returns-clause-labelled
returns-clause-labelled g c = made_then_labelled g.met.AB.NamedAirBuilder.named_laws Base _ _ _ _ c.assert_zero_named.result _ c.in_ok-x.ensures c.assert_zero_named.ensures.label

pub returns-clause-no_label : goal.returns-clause-no_label
returns-clause-no_label g c = made_then_refused g.met.AB.NamedAirBuilder.named_laws Base _ _ _ _ c.assert_zero_named.result _ c.in_ok-x.ensures c.assert_zero_named.ensures.label

pub assert_zero_named-requires-clause-of_ring : goal.assert_zero_named-requires-clause-of_ring
assert_zero_named-requires-clause-of_ring g c = made_in_ring g.met.AB.Ring.Algebra.laws g.met.AB.AirBuilder.laws _ _ _ _ _ c.in_ok-x.ensures refl
