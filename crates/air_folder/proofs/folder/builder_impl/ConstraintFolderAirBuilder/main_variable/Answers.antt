use Rattle.std.proofs.Common.{◌≡◌, ◌≤◌, ◌↔◌, None, sym, subst}
use Rattle.air_builder.specs.laws.ShownRows.{found_stands, none_is_past}
use Rattle.air_folder.proofs.folder.builder_impl.ConstraintFolderAirBuilder.main_variable.Goals as goal

pub returns-in-0-clause-found : goal.returns-in-0-clause-found
returns-in-0-clause-found g c = rw c.in-0.is (found_stands g.met.EF.ExtensionField.laws c.args.self.now.row.main.current.now c.args.column c.current.result c.current.ensures)

pub returns-in-1-clause-found : goal.returns-in-1-clause-found
returns-in-1-clause-found g c = rw c.in-1.is (found_stands g.met.EF.ExtensionField.laws c.args.self.now.row.main.next.now c.args.column c.next.result c.next.ensures)

pub returns-in-0-clause-none : goal.returns-in-0-clause-none
returns-in-0-clause-none g c = rw c.in-0.is (none_is_past c.args.self.now.row.main.current.now c.args.column c.current.result c.current.ensures)

pub returns-in-1-clause-none : goal.returns-in-1-clause-none
returns-in-1-clause-none g c =
    let window = c.args.self.now.row.main in
    rw c.in-1.is
    (subst (λ n. (c.next.result ≡ None) ↔ (n ≤ c.args.column)) (sym window.same_width) (none_is_past window.next.now c.args.column c.next.result c.next.ensures))
