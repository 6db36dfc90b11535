use Rattle.test_airs.proofs.filters.assert_all.Given as goal

abbrev pub invariant-loop-word : goal.invariant-loop-word
invariant-loop-word g l = g.AB.AirBuilder.ready l.builder
