use Rattle.std.proofs.Common.{[], subst, sym}
use Rattle.test_recordings.proofs.lent.assert_constant_ext_under.Goals as goal

pub assert_zero_ext_under-requires-clause-x_in : goal.assert_zero_ext_under-requires-clause-x_in
assert_zero_ext_under-requires-clause-x_in g c =
    let laws = g.met.AB.AirBuilder.laws in
    let ext = g.met.AB.ExtensionBuilder.ext_laws in
    let lent = laws.by_growth _ _ [] (laws.ring_lent _ _ (subst (λ r. g.AB.Ring.Algebra.extends r c.constant.new.self) c.ring.ensures.value c.constant.ensures.extended)) in
    let made = subst (λ r. g.AB.ExtRing.Algebra.has r c.in_ok-x.x) (sym (ext.ext_ring_with c.args.builder.now c.ext_constant.new.self)) c.in_ok-x.ensures.made.0 in
    g.met.AB.ExtRing.Algebra.laws.has_stays _ _ c.in_ok-x.x (ext.ext_ring_kept _ _ lent) made

pub returns : goal.returns
returns g c =
    let laws = g.met.AB.AirBuilder.laws in
    let ext = g.met.AB.ExtensionBuilder.ext_laws in
    let first = laws.by_growth _ _ [] (ext.ext_ring_lent _ _ (subst (λ r. g.AB.ExtRing.Algebra.extends r c.ext_constant.new.self) c.ext_ring.ensures.value c.ext_constant.ensures.extended)) in
    let second = laws.by_growth _ _ [] (laws.ring_lent _ _ (subst (λ r. g.AB.Ring.Algebra.extends r c.constant.new.self) c.ring.ensures.value c.constant.ensures.extended)) in
    laws.ready_kept _ _ (laws.kept_joined _ _ _ (laws.kept_joined _ _ _ first second) c.assert_zero_ext_under.ensures) c.requires
