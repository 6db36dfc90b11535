use Rattle.std.proofs.Common.{[], subst, sym}
use Rattle.test_recordings.proofs.lent.assert_named.Goals as goal

pub assert_zero_ext_named-requires-clause-of_ring : goal.assert_zero_ext_named-requires-clause-of_ring
assert_zero_ext_named-requires-clause-of_ring g c =
    let ext = g.met.AB.ExtensionBuilder.ext_laws in
    subst (λ r. g.AB.ExtRing.Algebra.has r c.in_ok-x.x) (sym (ext.ext_ring_with c.args.builder.now c.ext_constant.new.self)) c.in_ok-x.ensures.made.0

pub returns : goal.returns
returns g c =
    let laws = g.met.AB.AirBuilder.laws in
    let ext = g.met.AB.ExtensionBuilder.ext_laws in
    let lent = laws.by_growth _ _ [] (ext.ext_ring_lent _ _ (subst (λ r. g.AB.ExtRing.Algebra.extends r c.ext_constant.new.self) c.ext_ring.ensures.value c.ext_constant.ensures.extended)) in
    laws.ready_kept _ _ (laws.kept_joined _ _ _ lent c.assert_zero_ext_named.ensures.asserted.keeps) c.requires
