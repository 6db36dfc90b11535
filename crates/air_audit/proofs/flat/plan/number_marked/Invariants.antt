use Rattle.air_audit.proofs.Numbering.{NumberedTo}
use Rattle.air_audit.proofs.flat.plan.number_marked.Given as goal

-- what is marked so far is numbered
abbrev pub invariant-loop-mark : goal.invariant-loop-mark
invariant-loop-mark g l = NumberedTo l.marks l.numbers.items l.places.items l.mark-index
