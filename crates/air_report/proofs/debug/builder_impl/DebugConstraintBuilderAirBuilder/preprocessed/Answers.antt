use Rattle.std.proofs.Common.{refl}
use Rattle.air_builder.specs.laws.ShownRows.{base_window}
use Rattle.air_report.proofs.debug.builder_impl.DebugConstraintBuilderAirBuilder.preprocessed.Goals as goal

pub returns : goal.returns
returns g c =
    let window = c.args.self.now.row.preprocessed in
    let shows = base_window g.F.Field.ring.zero window.current.now window.next.now _ _ window.same_width refl refl in
    record { window = tt; current = shows.current; next = shows.next; current_ends = shows.current_ends; next_ends = shows.next_ends }
