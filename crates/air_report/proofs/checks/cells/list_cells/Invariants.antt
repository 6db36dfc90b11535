use Rattle.std.proofs.Common.{length, take}
use Rattle.air_report.specs.Cells.{violated_cells, take_within_cap, ListsCells}
use Rattle.air_report.proofs.checks.cells.list_cells.Given as goal

abbrev pub invariant-cells : goal.invariant-cells
invariant-cells g l =
    let before = violated_cells g.F.Field.ring g.F.PartialEq.eq l.main l.public_values (take l.place l.cells) in
    ListsCells (length l.main.rows) l.count (take_within_cap l.max_failures (length l.initial.failures.items) before) l.initial.failures.items l.failures.items
