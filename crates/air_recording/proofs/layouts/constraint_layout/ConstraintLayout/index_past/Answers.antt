use Rattle.std.proofs.Common.{arith}
use Rattle.std.proofs.lemmas.List.Folds.{find-append}
use Rattle.air_recording.proofs.layouts.constraint_layout.ConstraintLayout.index_past.Goals as goal

pub returns-in-Some : goal.returns-in-Some
returns-in-Some c = grind (arith, find-append)

pub returns-in-None : goal.returns-in-None
returns-in-None c = grind (arith, find-append)
