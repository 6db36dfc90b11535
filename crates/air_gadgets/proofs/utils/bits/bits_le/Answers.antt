use Rattle.std.proofs.Common.{◌≡◌, ◌∙◌, ◌-◌, ◌<◌, ◌≤◌, ◌/◌, ◌++◌, suc, length, map, take, sym, ap, add-one, append-nil, arith, length-set}
use Rattle.std.proofs.Math.Seq.{take-suc-set}
use Rattle.std.proofs.lemmas.List.{take_all}
use Rattle.air_field.specs.Ring.{image}
use Rattle.air_gadgets.specs.Bits.{digits_of, binary_sum}
use Rattle.air_gadgets.specs.laws.Bits.{digit_taken, image-bit, packed-digits}
use Rattle.air_gadgets.proofs.utils.bits.bits_le.Goals as goal

pub loop-i-preserved : goal.loop-i-preserved
loop-i-preserved g c =
    let images = map (image g.F.Field.ring) (digits_of 2 g.row.N c.args.val) in
    let inside : c.loop-i.i < length c.loop-i.bits = omega (arith, c.loop-i.invariant.0, c.loop-i-test.true) in
    let next : g.row.N - c.loop-i.i ≡ suc (g.row.N - suc c.loop-i.i) = omega (arith, c.loop-i-test.true) in (
      length-set c.loop-i.bits c.loop-i.i c.from_bool.result ∙ c.loop-i.invariant.0,
      rw add-one
          (digit_taken g.F.Field.ring images (take c.loop-i.i c.loop-i.bits) (g.row.N - suc c.loop-i.i) (g.row.N - c.loop-i.i) c.loop-i.left c.from_bool.result next (c.from_bool.ensures ∙ image-bit g.F.Field.ring c.loop-i.left) c.loop-i.invariant.1
          ∙ ap (λ l. l ++ map (image g.F.Field.ring) (digits_of 2 (g.row.N - suc c.loop-i.i) (c.loop-i.left / 2))) (sym (take-suc-set c.loop-i.bits c.loop-i.i c.from_bool.result inside))),
    )

pub returns-clause-bits : goal.returns-clause-bits
returns-clause-bits g c =
    let none : g.row.N - c.loop-i.i ≡ 0 = omega (arith, c.loop-i-test.false) in
    let all : length c.loop-i.bits ≤ c.loop-i.i = omega (arith, c.loop-i.invariant.0, c.loop-i-test.false) in
    sym (c.loop-i.invariant.1
    ∙ (ap (λ k. take c.loop-i.i c.loop-i.bits ++ map (image g.F.Field.ring) (digits_of 2 k c.loop-i.left)) none
    ∙ (append-nil (take c.loop-i.i c.loop-i.bits) ∙ take_all c.loop-i.i c.loop-i.bits all)))

pub returns-clause-packed : goal.returns-clause-packed
returns-clause-packed g c =
    λ below. ap (binary_sum g.F.Field.ring) (returns-clause-bits g c) ∙ packed-digits g.F.Field.ring g.row.N c.args.val below
