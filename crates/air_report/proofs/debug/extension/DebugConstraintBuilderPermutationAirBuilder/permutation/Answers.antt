use Rattle.std.proofs.Common.{rules}
use Rattle.air_builder.specs.laws.ShownRows.{permutation_window}
use Rattle.air_report.proofs.debug.extension.DebugConstraintBuilderPermutationAirBuilder.permutation.Goals as goal

pub returns-in-Some : goal.returns-in-Some
returns-in-Some g c =
    let rows = c.from_two_rows.ensures in
    let shows = permutation_window g.met.EF.ExtensionField.laws c.in-Some.pair _ _ c.in-Some.is rows.current rows.next in
    record { current = shows.current; next = shows.next; current_ends = shows.current_ends; next_ends = shows.next_ends; answered = search rules; without = search rules; refused = tt }
