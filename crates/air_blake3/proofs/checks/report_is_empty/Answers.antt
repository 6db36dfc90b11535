use Rattle.std.proofs.Common.{sym, subst}
use Rattle.air_blake3.specs.Checks.{ReportsAreEmpty}
use Rattle.air_blake3.proofs.Checked.{compression_rows_pass}
use Rattle.air_blake3.proofs.checks.report_is_empty.Goals as goal

pub returns : goal.returns
returns g c =
    subst (ReportsAreEmpty g.F.Field.ring g.F.PartialEq.eq) (sym g.met.F.Field.zero_is)
    (compression_rows_pass g.F.Field.ring g.F.PartialEq.eq g.met.F.Field.eq_is)
