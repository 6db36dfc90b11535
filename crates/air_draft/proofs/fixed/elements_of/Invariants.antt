use Rattle.std.proofs.Common.{◌≡◌, map, take}
use Rattle.air_field.specs.Ring.{image}
use Rattle.air_draft.proofs.fixed.elements_of.Given as goal

-- the elements of the numbers so far
abbrev pub invariant-loop-n : goal.invariant-loop-n
invariant-loop-n g l = l.elements.items ≡ map (image g.F.Field.ring) (take l.n-index l.numbers)
