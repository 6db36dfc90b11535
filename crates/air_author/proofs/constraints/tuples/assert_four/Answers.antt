use Rattle.std.proofs.lemmas.Result.{err_from_is_err_and, on_ok_weaker}
use Rattle.air_author.specs.laws.Asserting.{asserted_then, beginning_gives_up}
use Rattle.air_author.proofs.constraints.tuples.assert_four.Goals as goal

pub returns-clause-asserted : goal.returns-clause-asserted
returns-clause-asserted g c = asserted_then g.met.AB.AirBuilder.laws _ _ _ _ c.assert_three.result _ _ c.in_ok-assert_under.ensures.asserted c.assert_three.ensures.asserted

pub returns-in_err-assert_under-clause-asserted : goal.returns-in_err-assert_under-clause-asserted
returns-in_err-assert_under-clause-asserted g c = beginning_gives_up g.met.AB.AirBuilder.laws _ c.from_residual.ensures.1 c.in_err-assert_under.ensures.asserted

pub assert_three-requires-clause-usable : goal.assert_three-requires-clause-usable
assert_three-requires-clause-usable g c = λ b k.
    let h = c.requires.usable b (g.met.AB.AirBuilder.laws.kept_joined _ _ _ c.in_ok-assert_under.ensures.asserted.asserted.keeps k) in
    (h.0.1, h.1)

pub returns-clause-labelled : goal.returns-clause-labelled
returns-clause-labelled g c =
    on_ok_weaker c.assert_three.result (λ rest. (c.assert_under.new.builder, c.in_ok-assert_under.ensures.labelled, rest)) c.assert_three.ensures.labelled

pub returns-in_err-assert_under-clause-labelled : goal.returns-in_err-assert_under-clause-labelled
returns-in_err-assert_under-clause-labelled g c =
    let p = err_from_is_err_and c.from_residual.result c.from_residual.ensures.1 in
    rw p.1 tt
