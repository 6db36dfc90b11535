use Rattle.std.proofs.Common.{◌∙◌, refl}
use Rattle.air_gadgets.proofs.columns.virtual_pair_col.VirtualPairCol.single.Goals as goal

pub returns-clause-made : goal.returns-clause-made
returns-clause-made g c =
    c.new.ensures
    ∙ rw (c.in_ok-push.ensures.items, c.new-column_weights.ensures.items, c.ONE.ensures, c.ZERO.ensures) refl
