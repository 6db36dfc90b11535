use Rattle.std.proofs.Common.{◌≡◌, take}
use Rattle.air_recording.specs.AlphaPowers.{coordinates_of}
use Rattle.air_recording.proofs.layouts.constraint_layout.coordinate.Given as goal

abbrev pub invariant-loop-element : goal.invariant-loop-element
invariant-loop-element g l = l.coefficients.items ≡ coordinates_of g.F.Field.ring g.EF.ExtensionField.basis (take l.element-index l.elements) l.d
