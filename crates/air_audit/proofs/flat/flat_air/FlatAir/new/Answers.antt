use Rattle.std.proofs.lemmas.Result.{err_from_is_err_and}
use Rattle.air_audit.proofs.flat.flat_air.FlatAir.new.Goals as goal

pub returns-in_err-plan-clause-pool : goal.returns-in_err-plan-clause-pool
returns-in_err-plan-clause-pool g c =
    let p = err_from_is_err_and c.from_residual.result c.from_residual.ensures.1 in
    rw p.1 tt

pub returns-in_err-plan-clause-roots : goal.returns-in_err-plan-clause-roots
returns-in_err-plan-clause-roots g c =
    let p = err_from_is_err_and c.from_residual.result c.from_residual.ensures.1 in
    rw p.1 tt

pub returns-in_err-plan-clause-beside : goal.returns-in_err-plan-clause-beside
returns-in_err-plan-clause-beside g c =
    let p = err_from_is_err_and c.from_residual.result c.from_residual.ensures.1 in
    rw p.1 tt

pub returns-in_err-plan-clause-refused : goal.returns-in_err-plan-clause-refused
returns-in_err-plan-clause-refused g c =
    let p = err_from_is_err_and c.from_residual.result c.from_residual.ensures.1 in
    rw (p.1, p.2) c.in_err-plan.ensures.refused
