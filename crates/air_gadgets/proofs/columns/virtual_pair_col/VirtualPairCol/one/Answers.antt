use Rattle.std.proofs.Common.{◌∙◌, [], ap}
use Rattle.air_gadgets.specs.Columns.{combination}
use Rattle.air_gadgets.proofs.columns.virtual_pair_col.VirtualPairCol.one.Goals as goal

pub returns : goal.returns
returns g c = c.constant.ensures ∙ ap (λ x. combination [] x) c.ONE.ensures
