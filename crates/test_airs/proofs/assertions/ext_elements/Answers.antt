use Rattle.std.proofs.Common.{[], IfOk, subst, sym}
use Rattle.test_airs.proofs.assertions.ext_elements.Goals as goal

pub returns-clause-kept : goal.returns-clause-kept
returns-clause-kept g c =
    let laws = g.met.AB.AirBuilder.laws in
    let ext = g.met.AB.ExtensionBuilder.ext_laws in
    laws.by_growth _ _ [] (ext.ext_ring_lent _ _ (subst (λ r. g.AB.ExtRing.Algebra.extends r c.two_ext_constants.new.ring) c.ext_ring.ensures.value c.two_ext_constants.ensures.extended))

pub returns-clause-first : goal.returns-clause-first
returns-clause-first g c =
    let ext = g.met.AB.ExtensionBuilder.ext_laws in
    subst (λ r. IfOk c.two_ext_constants.result (λ made. g.AB.ExtRing.Algebra.has r made.0)) (sym (ext.ext_ring_with c.args.builder.now c.two_ext_constants.new.ring)) c.two_ext_constants.ensures.first

pub returns-clause-second : goal.returns-clause-second
returns-clause-second g c =
    let ext = g.met.AB.ExtensionBuilder.ext_laws in
    subst (λ r. IfOk c.two_ext_constants.result (λ made. g.AB.ExtRing.Algebra.has r made.1)) (sym (ext.ext_ring_with c.args.builder.now c.two_ext_constants.new.ring)) c.two_ext_constants.ensures.second
