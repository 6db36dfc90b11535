use Rattle.std.proofs.Common.{rules, arith, ◌≡◌, ◌<◌, length, sym, ◌∙◌}
use Rattle.std.proofs.lemmas.Grind.{common_steps}
use Rattle.air_core.proofs.PeriodicRows.{HasGridRows-more, matrix_made, matrix_not_refused}
use Rattle.air_core.proofs.periodic.periodic_matrix.Goals as goal

pub loop-row-preserved : goal.loop-row-preserved
loop-row-preserved g c =
    HasGridRows-more _ _ c.loop-row.values.items _ c.loop-row.invariant c.in_ok-push_row.ensures.rows

pub unreachable-requires : goal.unreachable-requires
unreachable-requires g c =
    let some : 0 < length c.args.columns.now = search (rules, common_steps) in
    matrix_not_refused c.args.columns.now c.loop-row.row c.loop-row.values.items c.in-Err.field-0 some
    c.loop-row.invariant (sym c.new.ensures ∙ c.in-Err.is)

pub returns : goal.returns
returns g c =
    let some : 0 < length c.args.columns.now = search (rules, common_steps) in
    let whole : c.greatest_period-height.result ≡ c.loop-row.row = omega arith in
    matrix_made c.args.columns.now c.loop-row.row c.loop-row.values.items c.in-Ok.matrix some
    (rw whole at c.greatest_period-height.ensures) c.loop-row.invariant (sym c.new.ensures ∙ c.in-Ok.is)
