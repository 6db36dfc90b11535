use Rattle.air_program.proofs.Outcomes.{refusal_written, refused_outcome}
use Rattle.air_program.proofs.program.run.Goals as goal

pub returns-clause-outcome : goal.returns-clause-outcome
returns-clause-outcome g c =
    let input = c.in-Ok.input.items in
    let refused = rw c.deref.ensures.value at c.in-Err.ensures.refused in
    refusal_written c.refuse-in-Err.result _ _ _ c.refuse-in-Err.ensures.status c.refuse-in-Err.ensures.ok
    (refused_outcome _ _ _ input c.in-Some.request _ _ c.in-Err.why c.in-Some.ensures c.in-Ok.ensures.failed c.in-Ok.ensures.ok c.in-Ok.ensures.end refused)
