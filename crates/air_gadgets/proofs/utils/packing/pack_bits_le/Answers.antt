use Rattle.std.proofs.Common.{◌≡◌, ◌-◌, ◌<◌, suc, length, subst, sym, arith}
use Rattle.std.proofs.lemmas.List.Elements.{All-get_or}
use Rattle.std.proofs.lemmas.Result.{err_from_is_err_and}
use Rattle.air_gadgets.specs.laws.PowerSums.{packs_values}
use Rattle.air_gadgets.proofs.PackingLaws.{IsPacking, begin_packing, pack_one, end_packing, doubling_refused, adding_bit_refused, one_below, packed_as_air}
use Rattle.air_gadgets.proofs.utils.packing.pack_bits_le.Goals as goal

pub loop-left-init : goal.loop-left-init
loop-left-init g c =
    let some : 0 < length c.args.bits.now = grind (arith, c.is_empty.ensures, c.if-is_empty.false) in
    let inside : length c.args.bits.now - 1 < length c.args.bits.now = omega (arith, some) in
    let last : suc (length c.args.bits.now - 1) ≡ length c.args.bits.now = omega (arith, some) in (
      inside,
      begin_packing g.met.R.Algebra.laws g.F.Field.ZERO c.args.bits.now c.args.ring.now (length c.args.bits.now - 1) c.index-bits-left.result last c.index-bits-left.is
          (subst (g.R.Algebra.has c.args.ring.now) (sym c.index-bits-left.is) (All-get_or (g.R.Algebra.has c.args.ring.now) c.args.bits.now (length c.args.bits.now - 1) c.index-bits-left.result inside c.requires.all_in)),
    )

pub returns-in_err-twice-clause-refused : goal.returns-in_err-twice-clause-refused
returns-in_err-twice-clause-refused g c =
    let inside : c.loop-left.left - 1 < length c.args.bits.now = omega (arith, c.loop-left.invariant.0) in
    let p = err_from_is_err_and c.from_residual-in_err-twice.result c.from_residual-in_err-twice.ensures.1 in
    rw (p.1, p.2)
    (packed_as_air g.R.Algebra.means g.R.Algebra.refuses g.F.Field.ZERO c.args.ring.now c.args.bits.now c.in_err-twice.field-0.0
    (doubling_refused g.met.R.Algebra.laws g.F.Field.ZERO c.args.bits.now c.args.ring.now c.loop-left.ring c.in_err-twice.field-0.0 (c.loop-left.left - 1) c.loop-left.total c.index-bits-left-in-loop-left.result
    inside c.index-bits-left-in-loop-left.is c.in_err-twice.ensures.refused (one_below c.loop-left.left c.loop-left.total c.loop-left-test.true c.loop-left.invariant.1)))

pub add-requires-clause-y_in : goal.add-requires-clause-y_in
add-requires-clause-y_in g c =
    let inside : c.loop-left.left - 1 < length c.args.bits.now = omega (arith, c.loop-left.invariant.0) in
    g.met.R.Algebra.laws.has_stays _ _ c.index-bits-left-in-loop-left.result c.double.ensures.extended
    (g.met.R.Algebra.laws.has_stays _ _ c.index-bits-left-in-loop-left.result c.loop-left.invariant.1.extended
    (subst (g.R.Algebra.has c.args.ring.now) (sym c.index-bits-left-in-loop-left.is) (All-get_or (g.R.Algebra.has c.args.ring.now) c.args.bits.now (c.loop-left.left - 1) c.index-bits-left-in-loop-left.result inside c.requires.all_in)))

pub returns-in_err-total-clause-extended : goal.returns-in_err-total-clause-extended
returns-in_err-total-clause-extended g c =
    g.met.R.Algebra.laws.joined _ _ _ c.loop-left.invariant.1.extended (g.met.R.Algebra.laws.joined _ _ _ c.double.ensures.extended c.add.ensures.extended)

pub returns-in_err-total-clause-refused : goal.returns-in_err-total-clause-refused
returns-in_err-total-clause-refused g c =
    let inside : c.loop-left.left - 1 < length c.args.bits.now = omega (arith, c.loop-left.invariant.0) in
    let p = err_from_is_err_and c.from_residual-in_err-total.result c.from_residual-in_err-total.ensures.1 in
    rw (p.1, p.2)
    (packed_as_air g.R.Algebra.means g.R.Algebra.refuses g.F.Field.ZERO c.args.ring.now c.args.bits.now c.in_err-total.field-0.0
    (adding_bit_refused g.met.R.Algebra.laws g.F.Field.ZERO c.args.bits.now c.args.ring.now c.loop-left.ring c.double.new.self c.in_err-total.field-0.0 (c.loop-left.left - 1) c.loop-left.total c.in_ok-twice.twice c.index-bits-left-in-loop-left.result
    inside c.index-bits-left-in-loop-left.is c.double.ensures.extended c.in_ok-twice.ensures.made c.in_err-total.ensures.refused (one_below c.loop-left.left c.loop-left.total c.loop-left-test.true c.loop-left.invariant.1)))

pub loop-left-preserved : goal.loop-left-preserved
loop-left-preserved g c =
    let inside : c.loop-left.left - 1 < length c.args.bits.now = omega (arith, c.loop-left.invariant.0) in (
      inside,
      pack_one g.met.R.Algebra.laws g.F.Field.ZERO c.args.bits.now c.args.ring.now c.loop-left.ring c.double.new.self c.add.new.self (c.loop-left.left - 1) c.loop-left.total c.in_ok-twice.twice c.index-bits-left-in-loop-left.result c.in_ok-total.total
          inside c.index-bits-left-in-loop-left.is c.double.ensures.extended c.add.ensures.extended c.in_ok-twice.ensures.made c.in_ok-total.ensures.made (one_below c.loop-left.left c.loop-left.total c.loop-left-test.true c.loop-left.invariant.1),
    )

pub returns-then-is_empty-clause-sum : goal.returns-then-is_empty-clause-sum
returns-then-is_empty-clause-sum g c = packs_values g.F.Field.ring g.F.Field.ZERO g.met.F.Field.zero_is

pub returns-clause-sum : goal.returns-clause-sum
returns-clause-sum g c = packs_values g.F.Field.ring g.F.Field.ZERO g.met.F.Field.zero_is

pub double-requires : goal.double-requires
double-requires g c = c.loop-left.invariant.1.total_in

pub add-requires-clause-x_in : goal.add-requires-clause-x_in
add-requires-clause-x_in g c = c.in_ok-twice.ensures.made.0

pub returns-in_err-twice-clause-extended : goal.returns-in_err-twice-clause-extended
returns-in_err-twice-clause-extended g c = g.met.R.Algebra.laws.joined _ _ _ c.loop-left.invariant.1.extended c.double.ensures.extended

pub returns-clause-extended : goal.returns-clause-extended
returns-clause-extended g c = c.loop-left.invariant.1.extended

pub returns-clause-made : goal.returns-clause-made
returns-clause-made g c =
    let none : c.loop-left.left ≡ 0 = omega (arith, c.loop-left-test.false) in
    end_packing g.met.R.Algebra.laws g.F.Field.ZERO c.args.bits.now c.args.ring.now c.loop-left.ring c.loop-left.total
    (subst (λ i. IsPacking g.R.Algebra.has g.R.Algebra.means g.R.Algebra.extends c.args.ring.now c.loop-left.ring c.args.bits.now i c.loop-left.total) none c.loop-left.invariant.1)
