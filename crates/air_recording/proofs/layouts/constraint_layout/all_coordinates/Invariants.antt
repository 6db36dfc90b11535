use Rattle.std.proofs.Common.{◌≡◌, map}
use Rattle.air_recording.specs.AlphaPowers.{all_coordinates_of}
use Rattle.air_recording.proofs.layouts.constraint_layout.all_coordinates.Given as goal

abbrev pub invariant-loop-d : goal.invariant-loop-d
invariant-loop-d g l = map (λ w. w.items) l.all.items ≡ all_coordinates_of g.F.Field.ring g.EF.ExtensionField.basis l.elements l.d
