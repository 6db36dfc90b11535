use Rattle.std.proofs.lemmas.Result.{err_from_is_err_and}
use Rattle.air_field.specs.Term.{main, leaf_term}
use Rattle.test_airs.proofs.differing.read_cell.Goals as goal

pub returns-in_err-x-clause-refused : goal.returns-in_err-x-clause-refused
returns-in_err-x-clause-refused g c =
    let p = err_from_is_err_and c.from_residual.result c.from_residual.ensures.1 in
    rw (p.1, p.2)
    (λ ts part. g.met.AB.AirBuilder.laws.refuses_in_ring c.args.builder.now c.in_err-x.field-0.0 (leaf_term (main 0 c.args.column)) ts
    (c.in_err-x.ensures.refused _ c.in-Some.ensures.found) part)
