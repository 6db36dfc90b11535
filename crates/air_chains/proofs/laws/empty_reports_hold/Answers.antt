use Rattle.air_chains.specs.laws.Reports.{empty_reports_hold, satisfied_rows_hold, held_rows_pass}
use Rattle.air_chains.proofs.laws.empty_reports_hold.Goals as goal

pub returns-clause-rows : goal.returns-clause-rows
returns-clause-rows g c = empty_reports_hold g.F.Field.ring g.F.PartialEq.eq g.met.F.Field.eq_is

pub returns-clause-satisfied : goal.returns-clause-satisfied
returns-clause-satisfied g c = satisfied_rows_hold g.F.Field.ring g.F.PartialEq.eq g.met.F.Field.eq_is

pub returns-clause-pass : goal.returns-clause-pass
returns-clause-pass g c = held_rows_pass g.F.Field.ring g.F.PartialEq.eq g.met.F.Field.eq_is
