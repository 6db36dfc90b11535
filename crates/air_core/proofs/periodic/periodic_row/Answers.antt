use Rattle.air_core.proofs.PeriodicRows.{row_made}
use Rattle.air_core.specs.Periodic.{column_at}
use Rattle.air_core.proofs.periodic.periodic_row.Goals as goal

pub returns : goal.returns
returns g c = row_made _ _ c.args.columns.now (column_at c.args.row) c.in_ok-values.ensures.items c.in_ok-push_row.ensures.rows
