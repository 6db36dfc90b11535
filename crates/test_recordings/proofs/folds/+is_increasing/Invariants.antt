use Rattle.std.proofs.Common.{length}
use Rattle.test_recordings.proofs.folds.+is_increasing.Given as goal

abbrev pub decreases-is_increasing : goal.decreases-is_increasing
decreases-is_increasing l = length l.all.now
