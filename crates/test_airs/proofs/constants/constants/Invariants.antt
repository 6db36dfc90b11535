use Rattle.test_airs.proofs.constants.constants.Given as goal

abbrev pub invariant-loop-word : goal.invariant-loop-word
invariant-loop-word g l = g.R.Algebra.extends l.fn.ring l.ring
