use Rattle.std.proofs.Common.{[]}
use Rattle.test_recordings.proofs.lent.lent_selector.Goals as goal

pub returns : goal.returns
returns g c =
    let laws = g.met.AB.AirBuilder.laws in
    laws.ready_kept _ _ (laws.by_growth _ _ [] c.selector_in.ensures) c.requires
