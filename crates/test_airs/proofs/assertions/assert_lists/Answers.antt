use Rattle.std.proofs.Common.{[], subst}
use Rattle.test_airs.proofs.assertions.assert_lists.Goals as goal

pub returns : goal.returns
returns g c =
    let laws = g.met.AB.AirBuilder.laws in
    laws.kept_joined _ _ _
    (laws.by_growth _ _ [] (laws.ring_lent c.args.builder.now c.constant_lists.new.ring
    (subst (λ r. g.AB.Ring.Algebra.extends r c.constant_lists.new.ring) c.ring.ensures.value c.constant_lists.ensures.extended)))
    c.assert_eq_slices.ensures.keeps
