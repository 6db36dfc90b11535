use Rattle.test_builders.proofs.trees.+show_tree.Given as goal

abbrev pub decreases-show_tree : goal.decreases-show_tree
decreases-show_tree g l = l.depth
