use Rattle.air_gadgets.specs.declared.columns.pair_col.PairCol.TheVariants.{Main}
use Rattle.air_gadgets.proofs.ListedColumns.{summed}
use Rattle.air_gadgets.proofs.columns.virtual_pair_col.VirtualPairCol.sum_main.Goals as goal

pub returns-clause-made : goal.returns-clause-made
returns-clause-made g c =
    summed Main g.F.Field.ONE _ _ c.deref.ensures.value c.in_ok-column_weights.ensures c.ZERO.ensures c.new_main.result c.new_main.ensures.made
