use Rattle.std.proofs.Common.{refl}
use Rattle.air_builder.specs.laws.ShownRows.{extension_window}
use Rattle.air_folder.proofs.folder.builder_impl.ConstraintFolderAirBuilder.preprocessed.Goals as goal

pub returns : goal.returns
returns g c =
    let window = c.args.self.now.row.preprocessed in
    let shows = extension_window g.met.EF.ExtensionField.laws window.current.now window.next.now _ _ window.same_width refl refl in
    record { window = tt; current = shows.current; next = shows.next; current_ends = shows.current_ends; next_ends = shows.next_ends }
