use Rattle.std.proofs.Common.{arith, ◌≡◌, ◌-◌, ◌+◌, suc, sym, ◌∙◌, ap}
use Rattle.blake3.specs.Compression.{place_in}
use Rattle.blake3.specs.laws.Places.{permutation_below_at, place_in-zero, place_in-suc}
use Rattle.blake3.proofs.messages.place_of.Goals as goal

pub loop-done-init : goal.loop-done-init
loop-done-init c =
    let all : c.args.round - 0 ≡ c.args.round = omega arith in
    record { within = c.requires; same = ap (λ k. place_in k c.args.index) all }

pub offset_bounds-place : goal.offset_bounds-place
offset_bounds-place c = omega (arith, c.loop-done.invariant.within)

pub bounds-place : goal.bounds-place
bounds-place c = c.loop-done.invariant.within

pub loop-done-preserved : goal.loop-done-preserved
loop-done-preserved c =
    let left : suc (c.args.round - (c.loop-done.done + 1)) ≡ c.args.round - c.loop-done.done = omega (arith, c.loop-done-test.true) in
    record {
      within = permutation_below_at c.loop-done.place;
      same = place_in-suc (c.args.round - (c.loop-done.done + 1)) c.loop-done.place ∙ ap (λ k. place_in k c.loop-done.place) left ∙ c.loop-done.invariant.same;
    }

pub returns-clause-is : goal.returns-clause-is
returns-clause-is c =
    let none : 0 ≡ c.args.round - c.loop-done.done = omega (arith, c.loop-done-test.false) in
    sym (place_in-zero c.loop-done.place) ∙ ap (λ k. place_in k c.loop-done.place) none ∙ c.loop-done.invariant.same

pub returns-clause-within : goal.returns-clause-within
returns-clause-within c = c.loop-done.invariant.within
