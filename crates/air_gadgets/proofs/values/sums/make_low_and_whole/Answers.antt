use Rattle.air_author.specs.Handing.{made_lasts}
use Rattle.air_author.specs.laws.Making.{first_gives_up, second_gives_up, one_by_one}
use Rattle.air_gadgets.proofs.values.sums.make_low_and_whole.Goals as goal

pub returns-in_err-made : goal.returns-in_err-made
returns-in_err-made g c = first_gives_up c.from_residual.ensures.1 c.in_err-made.ensures

pub make-requires-2-clause-usable : goal.make-requires-2-clause-usable
make-requires-2-clause-usable g c =
    let laws = g.met.AB.AirBuilder.laws in
    λ b k. (
      made_lasts g.met.AB.Ring.Algebra.laws laws _ _ _ _ c.in_ok-made.ensures b k,
      (c.requires.usable b (laws.kept_joined _ _ _ (laws.by_growth _ _ _ c.in_ok-made.ensures.keeps) k)).1,
    )

pub returns-in_err-whole : goal.returns-in_err-whole
returns-in_err-whole g c =
    second_gives_up g.met.AB.Ring.Algebra.laws g.met.AB.AirBuilder.laws _ _ _ _ _ _ _ _ c.in_ok-made.ensures c.from_residual-in_err-whole.ensures.1 c.in_err-whole.ensures

pub returns : goal.returns
returns g c = one_by_one g.met.AB.Ring.Algebra.laws g.met.AB.AirBuilder.laws _ _ _ _ _ _ _ c.in_ok-made.ensures c.in_ok-whole.ensures
