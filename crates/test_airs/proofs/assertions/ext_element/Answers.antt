use Rattle.std.proofs.Common.{[], IfOk, subst, sym}
use Rattle.test_airs.proofs.assertions.ext_element.Goals as goal

pub returns-clause-kept : goal.returns-clause-kept
returns-clause-kept g c =
    let laws = g.met.AB.AirBuilder.laws in
    let ext = g.met.AB.ExtensionBuilder.ext_laws in
    laws.by_growth _ _ [] (ext.ext_ring_lent _ _ (subst (λ r. g.AB.ExtRing.Algebra.extends r c.ext_constant.new.ring) c.ext_ring.ensures.value c.ext_constant.ensures.extended))

pub returns-clause-of_ring : goal.returns-clause-of_ring
returns-clause-of_ring g c =
    let ext = g.met.AB.ExtensionBuilder.ext_laws in
    subst (λ r. IfOk c.ext_constant.result (g.AB.ExtRing.Algebra.has r)) (sym (ext.ext_ring_with c.args.builder.now c.ext_constant.new.ring)) c.ext_constant.ensures.of_ring
