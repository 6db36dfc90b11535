use Rattle.std.proofs.Common.{arith, refl, ◌≡◌, ◌-◌, ◌+◌, ◌/◌, [], ◌∷◌, ◌++◌, suc, sym, ◌∙◌, ap}
use Rattle.air_gadgets.specs.laws.Bits.{image-bit}
use Rattle.air_blake3.proofs.Pushes.{bit_pushed, bits_done, with_bits}
use Rattle.air_blake3.proofs.values.push_bits.Goals as goal

pub loop-done-init : goal.loop-done-init
loop-done-init g c = refl

pub loop-done-preserved : goal.loop-done-preserved
loop-done-preserved g c =
    let R = g.F.Field.ring in
    let left : 32 - c.loop-done.done ≡ suc (32 - (c.loop-done.done + 1)) = omega (arith, c.loop-done-test.true) in
    ap (λ xs. with_bits R xs (32 - (c.loop-done.done + 1)) (c.loop-done.rest / 2)) (c.in_ok-push.ensures.items ∙ ap (λ x. c.loop-done.values.items ++ x ∷ []) (c.from_bool.ensures ∙ image-bit R c.loop-done.rest))
    ∙ bit_pushed R c.loop-done.values.items (32 - c.loop-done.done) (32 - (c.loop-done.done + 1)) c.loop-done.rest left
    ∙ c.loop-done.invariant

pub returns : goal.returns
returns g c =
    let none : 32 - c.loop-done.done ≡ 0 = omega (arith, c.loop-done-test.false) in
    sym (bits_done g.F.Field.ring c.loop-done.values.items (32 - c.loop-done.done) c.loop-done.rest none) ∙ c.loop-done.invariant
