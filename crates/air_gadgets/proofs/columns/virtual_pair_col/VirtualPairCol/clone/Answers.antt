use Rattle.std.proofs.Common.{◌∙◌, ap}
use Rattle.air_gadgets.specs.Columns.{combination}
use Rattle.air_gadgets.proofs.columns.virtual_pair_col.VirtualPairCol.clone.Goals as goal

pub returns : goal.returns
returns g c =
    let same = c.in_ok-column_weights.ensures.items ∙ c.deref.ensures.value in
    c.new.ensures ∙ (ap (λ weights. combination weights c.self.inside.constant) same ∙ c.self.view_is)
