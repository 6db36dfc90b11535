use Rattle.std.proofs.Common.{◌≡◌, ◌∙◌, ◌≤◌, length, sym, ap, arith}
use Rattle.std.proofs.lemmas.List.{length-take-le}
use Rattle.std.proofs.lemmas.Result.{err_from_is_err_and}
use Rattle.air_gadgets.specs.Words.{rotated_left}
use Rattle.air_gadgets.specs.Gadgets.{VariableMeans, HalfOf}
use Rattle.air_gadgets.proofs.Asserting.{list_of, list_of_each, list_first, list_then_each}
use Rattle.air_gadgets.proofs.Halves.{xors_are, low_half_is, high_half_is}
use Rattle.air_gadgets.proofs.ZipLaws.{rotated_long}
use Rattle.air_gadgets.proofs.words.rotations.xor_32_shift.Goals as goal

pub assert_half-requires-clause-same : goal.assert_half-requires-clause-same
assert_half-requires-clause-same g c =
    let own_is : c.as_slice-own.result.now ≡ c.args.b.now = cc in
    let others_is : c.as_slice-others.result.now ≡ rotated_left c.args.shift c.args.c.now = cc in
    let b_long : length c.args.b.now ≡ 32 = omega arith in
    let c_long : length c.args.c.now ≡ 32 = omega arith in
    let turned = rotated_long c.args.shift c.args.c.now c.requires.within c_long in
    let own_long : 16 ≤ length c.as_slice-own.result.now = omega (arith, b_long, ap length own_is) in
    let others_long : 16 ≤ length c.as_slice-others.result.now = omega (arith, turned, ap length others_is) in
    length-take-le 16 c.as_slice-own.result.now own_long ∙ sym (length-take-le 16 c.as_slice-others.result.now others_long)

pub returns-in_err-assert_bits : goal.returns-in_err-assert_bits
returns-in_err-assert_bits g c =
    let p = err_from_is_err_and c.from_residual.result c.from_residual.ensures.1 in
    let laws = g.met.AB.AirBuilder.laws in
    rw (p.1, p.2)
    (list_of laws _ (xors_are g.AB.F.Field.ring _ g.met.AB.F.Field.one_is (VariableMeans g.AB.Ring.FromVar-1.var_means g.AB.AirBuilder.reads_as) c.args.builder.now _ _ _ _ c.index-a-0.result c.index-a-1.result)
    (list_first laws (list_first laws (list_of_each laws _ c.in_err-assert_bits.ensures))))

pub returns-in_err-assert_half : goal.returns-in_err-assert_half
returns-in_err-assert_half g c =
    let p = err_from_is_err_and c.from_residual-in_err-assert_half.result c.from_residual-in_err-assert_half.ensures.1 in
    let laws = g.met.AB.AirBuilder.laws in
    let own_is : c.as_slice-own.result.now ≡ c.args.b.now = cc in
    let others_is : c.as_slice-others.result.now ≡ rotated_left c.args.shift c.args.c.now = cc in
    rw (p.1, p.2)
    (list_of laws _ (xors_are g.AB.F.Field.ring _ g.met.AB.F.Field.one_is (VariableMeans g.AB.Ring.FromVar-1.var_means g.AB.AirBuilder.reads_as) c.args.builder.now _ _ _ _ c.index-a-0.result c.index-a-1.result)
    (list_first laws
    (list_then_each laws (HalfOf g.AB.F.Field.ring (VariableMeans g.AB.Ring.FromVar-1.var_means (λ l. l))) _ (list_of_each laws _ c.in_ok-assert_bits.ensures)
    (low_half_is own_is others_is c.in_err-assert_half.ensures))))

pub returns : goal.returns
returns g c =
    let laws = g.met.AB.AirBuilder.laws in
    let own_is : c.as_slice-own.result.now ≡ c.args.b.now = cc in
    let others_is : c.as_slice-others.result.now ≡ rotated_left c.args.shift c.args.c.now = cc in
    list_of laws c.assert_half-2.result (xors_are g.AB.F.Field.ring _ g.met.AB.F.Field.one_is (VariableMeans g.AB.Ring.FromVar-1.var_means g.AB.AirBuilder.reads_as) c.args.builder.now _ _ _ _ c.index-a-0.result c.index-a-1.result)
    (list_then_each laws (HalfOf g.AB.F.Field.ring (VariableMeans g.AB.Ring.FromVar-1.var_means (λ l. l))) c.assert_half-2.result
    (list_then_each laws (HalfOf g.AB.F.Field.ring (VariableMeans g.AB.Ring.FromVar-1.var_means (λ l. l))) _ (list_of_each laws _ c.in_ok-assert_bits.ensures)
    (low_half_is own_is others_is c.in_ok-assert_half.ensures))
    (high_half_is own_is others_is c.assert_half-2.ensures))
