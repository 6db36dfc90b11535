use Rattle.test_builders.proofs.trees.+value_of.Given as goal

abbrev pub decreases-value_of : goal.decreases-value_of
decreases-value_of g l = l.depth
