use Rattle.std.proofs.lemmas.Result.{IfOk-weaker}
use Rattle.air_draft.proofs.fixed.Fixed.with_periodic_numbers.Goals as goal

pub returns-clause-added : goal.returns-clause-added
returns-clause-added g c =
    IfOk-weaker c.with_periodic.result _ _ (λ r e. (c.in_ok-column.column, c.in_ok-column.ensures, e)) c.with_periodic.ensures.added
