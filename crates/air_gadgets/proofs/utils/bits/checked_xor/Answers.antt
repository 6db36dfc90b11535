use Rattle.std.proofs.Common.{◌≡◌, ◌∙◌, ◌+◌, drop, sym, ap, subst}
use Rattle.std.proofs.lemmas.List.{drop_all}
use Rattle.air_gadgets.specs.laws.Bits.{xors_from, xors-image}
use Rattle.air_gadgets.proofs.Combining.{drop_item}
use Rattle.air_gadgets.proofs.utils.bits.checked_xor.Goals as goal

pub loop-x-preserved : goal.loop-x-preserved
loop-x-preserved g c =
    ap (λ y. xors_from g.F.Field.ring y (drop (c.loop-x.x-index + 1) c.args.xs.now)) c.xor_of-total.ensures
    ∙ (sym (ap (xors_from g.F.Field.ring c.loop-x.total) (drop_item c.args.xs.now c.loop-x.x-index c.x-item.result c.loop-x-test.true c.x-item.is))
    ∙ c.loop-x.invariant)

pub returns : goal.returns
returns g c bits hb e =
    let done : c.loop-x.total ≡ xors_from g.F.Field.ring g.F.Field.ZERO c.args.xs.now =
    subst (λ l. xors_from g.F.Field.ring c.loop-x.total l ≡ xors_from g.F.Field.ring g.F.Field.ZERO c.args.xs.now) (drop_all c.loop-x.x-index c.args.xs.now c.loop-x-test.false) c.loop-x.invariant in
    done ∙ xors-image g.F.Field.ring g.F.Field.ZERO c.args.xs.now bits g.met.F.Field.zero_is hb e
