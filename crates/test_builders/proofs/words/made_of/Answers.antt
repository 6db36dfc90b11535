use Rattle.std.proofs.Common.{[], subst, sym}
use Rattle.test_builders.proofs.words.made_of.Goals as goal

pub from_var-requires : goal.from_var-requires
from_var-requires g c = subst g.AB.Ring.Algebra.valid (sym c.ring.ensures.value) (g.met.AB.AirBuilder.laws.ring_valid c.args.builder.now c.requires)

pub returns-in_err-element-clause-ready : goal.returns-in_err-element-clause-ready
returns-in_err-element-clause-ready g c =
    let laws = g.met.AB.AirBuilder.laws in
    let lent = laws.by_growth _ _ [] (laws.ring_lent _ _ (subst (λ r. g.AB.Ring.Algebra.extends r c.from_var.new.self) c.ring.ensures.value c.from_var.ensures.extended)) in
    laws.ready_kept _ _ lent c.requires

pub returns-in_err-element-clause-stays : goal.returns-in_err-element-clause-stays
returns-in_err-element-clause-stays g c =
    let laws = g.met.AB.AirBuilder.laws in
    let lent = laws.by_growth _ _ [] (laws.ring_lent _ _ (subst (λ r. g.AB.Ring.Algebra.extends r c.from_var.new.self) c.ring.ensures.value c.from_var.ensures.extended)) in
    λ x h. g.met.AB.Ring.Algebra.laws.has_stays _ _ x (laws.ring_kept _ _ lent) h

pub returns-clause-ready : goal.returns-clause-ready
returns-clause-ready g c =
    let laws = g.met.AB.AirBuilder.laws in
    let lent = laws.by_growth _ _ [] (laws.ring_lent _ _ (subst (λ r. g.AB.Ring.Algebra.extends r c.from_var.new.self) c.ring.ensures.value c.from_var.ensures.extended)) in
    laws.ready_kept _ _ lent c.requires

pub returns-clause-stays : goal.returns-clause-stays
returns-clause-stays g c =
    let laws = g.met.AB.AirBuilder.laws in
    let lent = laws.by_growth _ _ [] (laws.ring_lent _ _ (subst (λ r. g.AB.Ring.Algebra.extends r c.from_var.new.self) c.ring.ensures.value c.from_var.ensures.extended)) in
    λ x h. g.met.AB.Ring.Algebra.laws.has_stays _ _ x (laws.ring_kept _ _ lent) h

pub returns-clause-of_ring : goal.returns-clause-of_ring
returns-clause-of_ring g c =
    subst (λ r. g.AB.Ring.Algebra.has r c.in_ok-element.element) (sym (g.met.AB.AirBuilder.laws.ring_with c.args.builder.now c.from_var.new.self)) c.in_ok-element.ensures.made.0
