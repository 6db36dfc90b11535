use Rattle.std.proofs.Common.{◌∙◌, sym}
use Rattle.air_builder.specs.laws.ShownRows.{base_window}
use Rattle.air_report.proofs.debug.builder_impl.DebugConstraintBuilderAirBuilder.main.Goals as goal

pub from_two_rows-requires : goal.from_two_rows-requires
from_two_rows-requires g c =
    let main = c.args.self.now.row.main in
    main.top_is_row ∙ main.same_width ∙ sym main.bottom_is_row

pub returns : goal.returns
returns g c =
    let main = c.args.self.now.row.main in
    let rows = c.from_two_rows.ensures in
    let shows = base_window g.F.Field.ring.zero main.top.values.now main.bottom.values.now _ _ (main.top_is_row ∙ main.same_width ∙ sym main.bottom_is_row) rows.current rows.next in
    record { window = tt; current = shows.current; next = shows.next; current_ends = shows.current_ends; next_ends = shows.next_ends; refused = tt }
