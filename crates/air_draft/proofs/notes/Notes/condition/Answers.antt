use Rattle.std.proofs.Common.{rules, refl}
use Rattle.air_draft.proofs.notes.Notes.condition.Goals as goal

pub returns-else-is_err-clause-written : goal.returns-else-is_err-clause-written
returns-else-is_err-clause-written c =
    record { conditions = λ _. (c.in-Ok.factors, c.in-Ok.ensures, search rules); fault = search rules; others = refl }
