use Rattle.std.proofs.Common.{length}
use Rattle.test_recordings.proofs.folds.+is_below_all.Given as goal

abbrev pub decreases-is_below_all : goal.decreases-is_below_all
decreases-is_below_all l = length l.all.now
