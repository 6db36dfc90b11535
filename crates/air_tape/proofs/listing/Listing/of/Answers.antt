use Rattle.std.proofs.Common.{rules, ◌≡◌, ◌+◌, [], ◌∷◌, ◌++◌, length, arith, sym, ◌∙◌, length-append}
use Rattle.air_tape.specs.Tapes.{Told}
use Rattle.air_tape.proofs.Telling.{told_push}
use Rattle.air_tape.proofs.listing.Listing.of.Goals as goal

pub loop-i-preserved : goal.loop-i-preserved
loop-i-preserved g c = let told = told_push c.args.tape.now c.loop-i.items.items c.loop-i.shown.items c.value.result.now c.in-Some.receipt c.loop-i.invariant.1 (c.in-Some.ensures.0 ∙ sym c.loop-i.invariant.0) c.in-Some.ensures.1 (sym c.value.ensures) in
    rw (c.in_ok-push.ensures.items, c.in_ok-push-2.ensures.items) (omega (arith, c.loop-i.invariant.0, length-append c.loop-i.items.items (c.value.result.now ∷ [])), told)

pub invariant_of-result : goal.invariant_of-result
invariant_of-result g c = record { told = rw c.of.ensures c.loop-i.invariant.1 }
