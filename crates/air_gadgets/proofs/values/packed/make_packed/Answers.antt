use Rattle.std.proofs.Common.{◌≡◌, ◌≤◌, ◌-◌, suc, arith}
use Rattle.air_author.specs.laws.Making.{made_in_ring, part_gives_up}
use Rattle.air_gadgets.proofs.Packing.{as_last, as_whole, one_of_whole, above_of_whole, one_refused, one_packed, stays_in_ring}
use Rattle.air_gadgets.proofs.values.packed.make_packed.Goals as goal

pub returns-in_err-sum : goal.returns-in_err-sum
returns-in_err-sum g c =
    part_gives_up (one_of_whole (g.S.Series.term_at c.args.series.now) c.args.last c.args.last (omega arith)) c.from_residual.ensures.1 c.in_err-sum.ensures

pub loop-index-init : goal.loop-index-init
loop-index-init g c = record {
  within = omega arith;
  made = as_last (g.S.Series.term_at c.args.series.now) g.met.AB.Ring.Algebra.laws g.met.AB.AirBuilder.laws c.args.last c.in_ok-sum.ensures;
}

pub returns-in_err-bit : goal.returns-in_err-bit
returns-in_err-bit g c =
    let lower : c.loop-index.index ≡ suc (c.loop-index.index - 1) = omega (arith, c.loop-index-test.true) in
    one_refused (g.S.Series.term_at c.args.series.now) g.met.AB.Ring.Algebra.laws g.met.AB.AirBuilder.laws c.args.last c.loop-index.index _ lower c.loop-index.invariant.within
    c.from_residual-in_err-bit.ensures.1 c.loop-index.invariant.made c.in_err-bit.ensures

pub returns-in_err-sum-2 : goal.returns-in_err-sum-2
returns-in_err-sum-2 g c =
    let lower : c.loop-index.index ≡ suc (c.loop-index.index - 1) = omega (arith, c.loop-index-test.true) in
    let within : c.loop-index.index - 1 ≤ c.args.last = omega (arith, c.loop-index.invariant.within) in
    part_gives_up (above_of_whole (g.S.Series.term_at c.args.series.now) c.args.last (c.loop-index.index - 1) within) c.from_residual-in_err-sum-2.ensures.1
    (one_packed (g.S.Series.term_at c.args.series.now) g.met.AB.Ring.Algebra.laws g.met.AB.AirBuilder.laws c.args.last c.loop-index.index _ lower c.loop-index.invariant.within c.twice_and.result
    c.loop-index.invariant.made c.in_ok-bit.ensures c.in_err-sum-2.ensures c.ring.ensures.value c.twice_and.ensures.extended c.twice_and.ensures.made c.twice_and.ensures.refused)

pub loop-index-preserved : goal.loop-index-preserved
loop-index-preserved g c =
    let lower : c.loop-index.index ≡ suc (c.loop-index.index - 1) = omega (arith, c.loop-index-test.true) in record {
      within = omega (arith, c.loop-index.invariant.within);
      made = one_packed (g.S.Series.term_at c.args.series.now) g.met.AB.Ring.Algebra.laws g.met.AB.AirBuilder.laws c.args.last c.loop-index.index _ lower c.loop-index.invariant.within c.twice_and.result
          c.loop-index.invariant.made c.in_ok-bit.ensures c.in_ok-sum-2.ensures c.ring.ensures.value c.twice_and.ensures.extended c.twice_and.ensures.made c.twice_and.ensures.refused;
    }

pub returns : goal.returns
returns g c =
    let none : c.loop-index.index ≡ 0 = omega (arith, c.loop-index-test.false) in
    as_whole (g.S.Series.term_at c.args.series.now) g.met.AB.Ring.Algebra.laws g.met.AB.AirBuilder.laws c.args.last c.loop-index.index none c.loop-index.invariant.made

pub twice_and-requires-clause-x_in : goal.twice_and-requires-clause-x_in
twice_and-requires-clause-x_in g c =
    stays_in_ring g.met.AB.Ring.Algebra.laws g.met.AB.AirBuilder.laws _ _ _ _ _ _ _ _ c.loop-index.invariant.made c.in_ok-bit.ensures c.ring.ensures.value

pub twice_and-requires-clause-y_in : goal.twice_and-requires-clause-y_in
twice_and-requires-clause-y_in g c = made_in_ring g.met.AB.Ring.Algebra.laws g.met.AB.AirBuilder.laws _ _ _ _ _ c.in_ok-bit.ensures c.ring.ensures.value
