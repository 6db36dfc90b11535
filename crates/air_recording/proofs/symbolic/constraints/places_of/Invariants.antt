use Rattle.std.proofs.Common.{◌≡◌, ◌++◌, drop}
use Rattle.air_recording.specs.Kinds.{is_of, places_from, places_where}
use Rattle.air_recording.proofs.symbolic.constraints.places_of.Given as goal

abbrev pub invariant-loop-place : goal.invariant-loop-place
invariant-loop-place l = l.places.items ++ places_from (is_of l.kind) l.place (drop l.place l.kinds) ≡ places_where (is_of l.kind) l.kinds
