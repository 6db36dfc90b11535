use Rattle.std.proofs.Common.{◌+◌, subst, sym, arith}
use Rattle.std.proofs.lemmas.Result.{err_from_is_err_and}
use Rattle.air_field.specs.Part.{Part}
use Rattle.air_draft.specs.DraftTerms.{power_term}
use Rattle.air_draft.proofs.NumberedTerms.{power_term-more}
use Rattle.air_draft.proofs.Refusing.{Part-power}
use Rattle.air_draft.proofs.elements.power_from.Goals as goal

pub loop-preserved : goal.loop-preserved
loop-preserved g c =
    let A = g.R.Algebra in
    let one = g.F.Field.ONE in
    let laws = g.met.R.Algebra.laws in
    let h = c.loop.invariant in
    record {
      begun = omega (arith, h.begun);
      within = omega (arith, c.loop-test.true);
      extended = laws.joined _ _ _ h.extended c.mul.ensures.extended;
      power_in = c.in_ok-power.ensures.made.0;
      made = λ t m.
          subst (A.means c.mul.new.self c.in_ok-power.power) (sym (power_term-more one t c.loop.counter h.begun))
          (c.in_ok-power.ensures.made.1 _ _ (h.made t m) (laws.means_stays _ _ _ _ h.extended m));
    }

pub returns-in_err-power-clause-refused : goal.returns-in_err-power-clause-refused
returns-in_err-power-clause-refused g c =
    let one = g.F.Field.ONE in
    let laws = g.met.R.Algebra.laws in
    let h = c.loop.invariant in
    let i = c.loop.counter in
    let k = c.args.k in
    let p = err_from_is_err_and c.from_residual.result c.from_residual.ensures.1 in
    rw (p.1, p.2) (λ t m.
    let part = subst (λ u. Part u (power_term one t k)) (power_term-more one t i h.begun) (Part-power one t (i + 1) k (omega arith) (omega (arith, c.loop-test.true))) in
    laws.refuses_whole _ _ _ part (c.in_err-power.ensures.refused _ _ (h.made t m) (laws.means_stays _ _ _ _ h.extended m)))
