use Rattle.air_builder.specs.laws.ShownRows.{found_is, none_is_past}
use Rattle.air_report.proofs.debug.builder_impl.DebugConstraintBuilderAirBuilder.preprocessed_variable.Goals as goal

pub returns-in-0-clause-found : goal.returns-in-0-clause-found
returns-in-0-clause-found g c = rw c.in-0.is (found_is c.args.self.now.row.preprocessed.current.now c.args.column _ c.current.result c.current.ensures)

pub returns-in-0-clause-none : goal.returns-in-0-clause-none
returns-in-0-clause-none g c = rw c.in-0.is (none_is_past c.args.self.now.row.preprocessed.current.now c.args.column c.current.result c.current.ensures)

pub returns-in-1-clause-found : goal.returns-in-1-clause-found
returns-in-1-clause-found g c = rw c.in-1.is (found_is c.args.self.now.row.preprocessed.next.now c.args.column _ c.next.result c.next.ensures)

pub returns-in-1-clause-none : goal.returns-in-1-clause-none
returns-in-1-clause-none g c =
    let window = c.args.self.now.row.preprocessed in
    rw (c.in-1.is, window.same_width) (none_is_past window.next.now c.args.column c.next.result c.next.ensures)

pub returns-in_default-clause-found : goal.returns-in_default-clause-found
returns-in_default-clause-found g c = tt
