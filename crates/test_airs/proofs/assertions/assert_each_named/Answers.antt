use Rattle.std.proofs.Common.{[], subst}
use Rattle.test_airs.proofs.assertions.assert_each_named.Goals as goal

pub returns : goal.returns
returns g c =
    let laws = g.met.AB.AirBuilder.laws in
    laws.kept_joined _ _ _
    (laws.by_growth _ _ [] (laws.ring_lent c.args.builder.now c.constants.new.ring
    (subst (λ r. g.AB.Ring.Algebra.extends r c.constants.new.ring) c.ring.ensures.value c.constants.ensures.extended)))
    c.in_ok-assert_each_named_as.ensures
