use Rattle.std.proofs.Common.{sym, ◌∙◌}
use Rattle.std.proofs.lemmas.Result.{err_from_is_err_and}
use Rattle.air_recording.proofs.ShownVariables.{variables_stand, variables_end}
use Rattle.air_recording.proofs.symbolic.builder_impl.SymbolicAirBuilderAirBuilder.main.Goals as goal

pub returns-in_err-current-clause-window : goal.returns-in_err-current-clause-window
returns-in_err-current-clause-window g c =
    let p = err_from_is_err_and c.from_residual.result c.from_residual.ensures.1 in
    rw p.1 tt

pub returns-in_err-current-clause-current : goal.returns-in_err-current-clause-current
returns-in_err-current-clause-current g c =
    let p = err_from_is_err_and c.from_residual.result c.from_residual.ensures.1 in
    rw p.1 tt

pub returns-in_err-current-clause-next : goal.returns-in_err-current-clause-next
returns-in_err-current-clause-next g c =
    let p = err_from_is_err_and c.from_residual.result c.from_residual.ensures.1 in
    rw p.1 tt

pub returns-in_err-current-clause-current_ends : goal.returns-in_err-current-clause-current_ends
returns-in_err-current-clause-current_ends g c =
    let p = err_from_is_err_and c.from_residual.result c.from_residual.ensures.1 in
    rw p.1 tt

pub returns-in_err-current-clause-next_ends : goal.returns-in_err-current-clause-next_ends
returns-in_err-current-clause-next_ends g c =
    let p = err_from_is_err_and c.from_residual.result c.from_residual.ensures.1 in
    rw p.1 tt

pub returns-in_err-current-clause-refused : goal.returns-in_err-current-clause-refused
returns-in_err-current-clause-refused g c =
    let p = err_from_is_err_and c.from_residual.result c.from_residual.ensures.1 in
    rw (p.1, p.2, c.in_err-current.ensures.refused) tt

pub returns-in_err-next-clause-window : goal.returns-in_err-next-clause-window
returns-in_err-next-clause-window g c =
    let p = err_from_is_err_and c.from_residual-in_err-next.result c.from_residual-in_err-next.ensures.1 in
    rw p.1 tt

pub returns-in_err-next-clause-current : goal.returns-in_err-next-clause-current
returns-in_err-next-clause-current g c =
    let p = err_from_is_err_and c.from_residual-in_err-next.result c.from_residual-in_err-next.ensures.1 in
    rw p.1 tt

pub returns-in_err-next-clause-next : goal.returns-in_err-next-clause-next
returns-in_err-next-clause-next g c =
    let p = err_from_is_err_and c.from_residual-in_err-next.result c.from_residual-in_err-next.ensures.1 in
    rw p.1 tt

pub returns-in_err-next-clause-current_ends : goal.returns-in_err-next-clause-current_ends
returns-in_err-next-clause-current_ends g c =
    let p = err_from_is_err_and c.from_residual-in_err-next.result c.from_residual-in_err-next.ensures.1 in
    rw p.1 tt

pub returns-in_err-next-clause-next_ends : goal.returns-in_err-next-clause-next_ends
returns-in_err-next-clause-next_ends g c =
    let p = err_from_is_err_and c.from_residual-in_err-next.result c.from_residual-in_err-next.ensures.1 in
    rw p.1 tt

pub returns-in_err-next-clause-refused : goal.returns-in_err-next-clause-refused
returns-in_err-next-clause-refused g c =
    let p = err_from_is_err_and c.from_residual-in_err-next.result c.from_residual-in_err-next.ensures.1 in
    rw (p.1, p.2, c.in_err-next.ensures.refused) tt

pub new-requires : goal.new-requires
new-requires g c = c.in_ok-current.ensures.row.columns ∙ sym c.in_ok-next.ensures.row.columns

pub returns-clause-current : goal.returns-clause-current
returns-clause-current g c = rw c.new.ensures.current (variables_stand c.in_ok-current.ensures.row)

pub returns-clause-current_ends : goal.returns-clause-current_ends
returns-clause-current_ends g c = rw c.new.ensures.current (variables_end c.in_ok-current.ensures.row)

pub returns-clause-next : goal.returns-clause-next
returns-clause-next g c = rw c.new.ensures.next (variables_stand c.in_ok-next.ensures.row)

pub returns-clause-next_ends : goal.returns-clause-next_ends
returns-clause-next_ends g c = rw c.new.ensures.next (variables_end c.in_ok-next.ensures.row)
