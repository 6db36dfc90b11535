use Rattle.std.proofs.Common.{◌∙◌, ap}
use Rattle.air_gadgets.specs.Columns.{combination}
use Rattle.air_gadgets.proofs.columns.virtual_pair_col.VirtualPairCol.constant.Goals as goal

pub returns : goal.returns
returns g c = c.new-2.ensures ∙ ap (λ weights. combination weights c.args.x) c.new.ensures.items
