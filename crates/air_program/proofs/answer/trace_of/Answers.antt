use Rattle.std.proofs.Common.{rules, ◌≡◌, ◌/◌, arith, length}
use Rattle.air_field.specs.Grid.{grid_of}
use Rattle.air_program.proofs.Traces.{length-rows}
use Rattle.air_program.proofs.answer.trace_of.Goals as goal

pub returns-clause-height : goal.returns-clause-height
returns-clause-height c =
    let values = c.args.values.items in
    let same : c.in-Ok.main ≡ grid_of 2 values = search rules in
    rw (same, length-rows (length values / 2) 2 values) (omega arith)
