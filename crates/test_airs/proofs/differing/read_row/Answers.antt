use Rattle.std.proofs.lemmas.Result.{err_from_is_err_and}
use Rattle.std.proofs.Common.{[]}
use Rattle.air_field.specs.Term.{main}
use Rattle.air_builder.specs.laws.Refusals.{none_missing}
use Rattle.test_airs.specs.Differing.{differing_asserts}
use Rattle.test_airs.proofs.DifferingParts.{part_x, part_y, part_z}
use Rattle.test_airs.proofs.differing.read_row.Goals as goal

pub returns-in_err-x-clause-refused : goal.returns-in_err-x-clause-refused
returns-in_err-x-clause-refused g c =
    let one = g.AB.F.Field.ONE in
    let p = err_from_is_err_and c.from_residual.result c.from_residual.ensures.1 in
    rw (p.1, p.2) (c.in_err-x.ensures.refused (differing_asserts one) (part_x one))

pub returns-in_err-y-clause-keeps : goal.returns-in_err-y-clause-keeps
returns-in_err-y-clause-keeps g c = g.met.AB.AirBuilder.laws.joined _ _ _ [] [] c.in_ok-x.ensures.keeps c.in_err-y.ensures.keeps

pub returns-in_err-y-clause-refused : goal.returns-in_err-y-clause-refused
returns-in_err-y-clause-refused g c =
    let one = g.AB.F.Field.ONE in
    let p = err_from_is_err_and c.from_residual-in_err-y.result c.from_residual-in_err-y.ensures.1 in
    rw (p.1, p.2) (g.met.AB.AirBuilder.laws.refuses_then _ _ _ [] (differing_asserts one) c.in_ok-x.ensures.keeps (c.in_err-y.ensures.refused (differing_asserts one) (part_y one)))

pub returns-in_err-z-clause-keeps : goal.returns-in_err-z-clause-keeps
returns-in_err-z-clause-keeps g c =
    let laws = g.met.AB.AirBuilder.laws in
    laws.joined _ _ _ [] [] (laws.joined _ _ _ [] [] c.in_ok-x.ensures.keeps c.in_ok-y.ensures.keeps) c.in_err-z.ensures.keeps

pub returns-in_err-z-clause-refused : goal.returns-in_err-z-clause-refused
returns-in_err-z-clause-refused g c =
    let laws = g.met.AB.AirBuilder.laws in
    let one = g.AB.F.Field.ONE in
    let p = err_from_is_err_and c.from_residual-in_err-z.result c.from_residual-in_err-z.ensures.1 in
    rw (p.1, p.2) (laws.refuses_then _ _ _ [] (differing_asserts one) (laws.joined _ _ _ [] [] c.in_ok-x.ensures.keeps c.in_ok-y.ensures.keeps) (c.in_err-z.ensures.refused (differing_asserts one) (part_z one)))

pub returns-clause-keeps : goal.returns-clause-keeps
returns-clause-keeps g c =
    let laws = g.met.AB.AirBuilder.laws in
    laws.joined _ _ _ [] [] (laws.joined _ _ _ [] [] c.in_ok-x.ensures.keeps c.in_ok-y.ensures.keeps) c.in_ok-z.ensures.keeps

pub returns-clause-there : goal.returns-clause-there
returns-clause-there g c =
    let laws = g.met.AB.AirBuilder.laws in
    let missing = g.AB.AirBuilder.missing c.args.builder.now in
    let both = laws.joined _ _ _ [] [] c.in_ok-x.ensures.keeps c.in_ok-y.ensures.keeps in
    let x : missing (main 0 0) → ⊥ = c.in_ok-x.ensures.there in
    let y : missing (main 0 1) → ⊥ = λ m. c.in_ok-y.ensures.there (laws.missing_stays _ _ _ (laws.by_growth _ _ [] c.in_ok-x.ensures.keeps) m) in
    let z : missing (main 0 2) → ⊥ = λ m. c.in_ok-z.ensures.there (laws.missing_stays _ _ _ (laws.by_growth _ _ [] both) m) in
    none_missing missing (differing_asserts g.AB.F.Field.ONE) (((y, z), (x, (x, tt))), (((y, z), (x, y)), tt))
