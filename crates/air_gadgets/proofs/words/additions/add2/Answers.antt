use Rattle.std.specs.List.{AllZip}
use Rattle.air_gadgets.specs.Gadgets.{RefusesOne}
use Rattle.air_gadgets.proofs.Lending.{made_asserted, list_gives_up, sum_made}
use Rattle.air_gadgets.proofs.words.additions.add2.Goals as goal

pub returns-in_err-elements : goal.returns-in_err-elements
returns-in_err-elements g c = let made = sum_made g.met.AB.Ring.Algebra.laws g.met.AB.AirBuilder.laws c.ring.ensures.value c.sum_of_two.ensures.extended _ _ (RefusesOne g.AB.Ring.Algebra.refuses c.in_err-elements.field-0.0) _ _ _ c.in_err-elements.ensures.makes.refused in list_gives_up g.met.AB.Ring.Algebra.laws g.met.AB.AirBuilder.laws c.ring.ensures.value c.sum_of_two.ensures.extended c.from_residual.ensures.1 made

pub returns : goal.returns
returns g c = let made = sum_made g.met.AB.Ring.Algebra.laws g.met.AB.AirBuilder.laws c.ring.ensures.value c.sum_of_two.ensures.extended _ _ (AllZip (g.AB.Ring.Algebra.means c.sum_of_two.new.ring) c.in_ok-elements.elements) _ _ _ c.in_ok-elements.ensures.makes.made.1 in made_asserted g.met.AB.Ring.Algebra.laws g.met.AB.AirBuilder.laws c.ring.ensures.value c.sum_of_two.ensures.extended c.assert_zeros_slice.result made c.assert_zeros_slice.ensures
