use Rattle.air_gadgets.specs.laws.ExactSums.{add2_is_exact, add3_is_exact}
use Rattle.air_gadgets.specs.laws.ExactXors.{xor_is_exact}
use Rattle.air_gadgets.proofs.laws.words_are_exact.Goals as goal

pub returns-clause-add2 : goal.returns-clause-add2
returns-clause-add2 g c = add2_is_exact _ _ g.met.F.Field.image_is

pub returns-clause-add3 : goal.returns-clause-add3
returns-clause-add3 g c = add3_is_exact _ _ g.met.F.Field.image_is

pub returns-clause-xor : goal.returns-clause-xor
returns-clause-xor g c = xor_is_exact g.F.Field.ring
