use Rattle.test_recordings.proofs.expressions.+show_expression.Given as goal

abbrev pub decreases-show_expression : goal.decreases-show_expression
decreases-show_expression g l = l.depth
