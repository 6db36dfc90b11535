use Rattle.std.proofs.Common.{[], subst, sym}
use Rattle.test_in_code.proofs.tests.recordings.constant_asking.Goals as goal

pub zero_ext_asking-requires-clause-of_ring : goal.zero_ext_asking-requires-clause-of_ring
zero_ext_asking-requires-clause-of_ring g c =
    let ext = g.met.AB.ExtensionBuilder.ext_laws in
    subst (λ r. g.AB.ExtRing.Algebra.has r c.in_ok-x.x) (sym (ext.ext_ring_with c.args.builder.now c.ext_constant.new.self)) c.in_ok-x.ensures.made.0

pub returns : goal.returns
returns g c =
    let laws = g.met.AB.AirBuilder.laws in
    let ext = g.met.AB.ExtensionBuilder.ext_laws in
    let lent = laws.by_growth _ _ [] (ext.ext_ring_lent _ _ (subst (λ r. g.AB.ExtRing.Algebra.extends r c.ext_constant.new.self) c.ext_ring.ensures.value c.ext_constant.ensures.extended)) in
    laws.ready_kept _ _ (laws.kept_joined _ _ _ lent c.zero_ext_asking.ensures) c.requires
