use Rattle.air_core.specs.Periodic.{HasGridRows}
use Rattle.air_core.proofs.periodic.periodic_matrix.Given as goal

abbrev pub invariant-loop-row : goal.invariant-loop-row
invariant-loop-row g l = HasGridRows l.columns l.row l.values.items
