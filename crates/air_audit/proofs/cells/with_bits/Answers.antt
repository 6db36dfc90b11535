use Rattle.std.proofs.Common.{◌≡◌, ◌∙◌, ◌-◌, ◌<◌, ◌≤◌, ◌/◌, ◌%◌, ◌++◌, ◌∷◌, [], suc, length, take, sym, ap, add-one, append-nil, append_assoc, arith, length-set}
use Rattle.std.proofs.Math.Seq.{take-suc-set}
use Rattle.std.proofs.lemmas.List.{take_all}
use Rattle.air_gadgets.specs.Bits.{digits_of}
use Rattle.air_audit.proofs.cells.with_bits.Goals as goal

pub loop-i-preserved : goal.loop-i-preserved
loop-i-preserved g c =
    let i = c.loop-i.i in
    let cells = c.loop-i.cells in
    let left = c.loop-i.left in
    let inside : i < length cells = omega (arith, c.loop-i.invariant.1, c.loop-i-test.true) in
    let next : g.row.N - i ≡ suc (g.row.N - suc i) = omega (arith, c.loop-i-test.true) in (
      omega (arith, c.loop-i.invariant.0),
      length-set cells i (left % 2) ∙ c.loop-i.invariant.1,
      rw add-one
          (c.loop-i.invariant.2
          ∙ ap (λ k. take i cells ++ digits_of 2 k left) next
          ∙ sym (append_assoc (take i cells) (left % 2 ∷ []) (digits_of 2 (g.row.N - suc i) (left / 2)))
          ∙ ap (λ l. l ++ digits_of 2 (g.row.N - suc i) (left / 2)) (sym (take-suc-set cells i (left % 2) inside))),
    )

pub returns : goal.returns
returns g c =
    let i = c.loop-i.i in
    let none : g.row.N - i ≡ 0 = omega (arith, c.loop-i-test.false) in
    let all : length c.loop-i.cells ≤ i = omega (arith, c.loop-i.invariant.1, c.loop-i-test.false) in
    sym (c.loop-i.invariant.2
    ∙ (ap (λ k. take i c.loop-i.cells ++ digits_of 2 k c.loop-i.left) none
    ∙ (append-nil (take i c.loop-i.cells) ∙ take_all i c.loop-i.cells all)))
