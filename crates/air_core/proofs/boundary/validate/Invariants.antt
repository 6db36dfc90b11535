use Rattle.air_core.specs.Boundary.{AreSoundBelow}
use Rattle.air_core.proofs.boundary.validate.Given as goal

abbrev pub invariant-loop-place : goal.invariant-loop-place
invariant-loop-place l = AreSoundBelow l.width l.num_public_values l.cells l.place
