use Rattle.std.specs.List.{AllZip}
use Rattle.std.proofs.Common.{◌≡◌, slice_get, take, Some}
use Rattle.air_audit.proofs.flat.table.read_places.Given as goal

abbrev pub invariant-loop-place : goal.invariant-loop-place
invariant-loop-place g l = AllZip (λ x p. slice_get l.table p ≡ Some x) l.expressions.items (take l.place-index l.places)
