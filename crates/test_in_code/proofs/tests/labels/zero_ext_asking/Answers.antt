use Rattle.test_in_code.proofs.tests.labels.zero_ext_asking.Goals as goal

pub returns : goal.returns
returns g c = c.assert_zero_ext_named.ensures.asserted.keeps
