use Rattle.std.proofs.Common.{◌≡◌, ◌++◌, drop}
use Rattle.air_recording.specs.Inferred.{periods_of}
use Rattle.air_recording.proofs.symbolic.degree.lengths_of.Given as goal

abbrev pub invariant-loop-column : goal.invariant-loop-column
invariant-loop-column g l = l.periods.items ++ periods_of (drop l.column-index l.columns) ≡ periods_of l.columns
