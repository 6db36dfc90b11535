use Rattle.air_export.specs.laws.Exports.{values_alike, failures_alike, cells_alike, recorded_alike}
use Rattle.air_export.proofs.laws.exports_are_audited_alike.Goals as goal

pub returns-clause-values : goal.returns-clause-values
returns-clause-values g c = λ written air main public i u t h k. values_alike g.F.Field.ring written air main public h i u t k

pub returns-clause-failures : goal.returns-clause-failures
returns-clause-failures g c = λ written air main public h. failures_alike g.F.Field.ring written air main public h g.F.PartialEq.eq

pub returns-clause-cells : goal.returns-clause-cells
returns-clause-cells g c = λ written air main public h. cells_alike g.F.Field.ring written air main public h g.F.PartialEq.eq

pub returns-clause-recorded : goal.returns-clause-recorded
returns-clause-recorded g c = recorded_alike g.F.Field.ring
