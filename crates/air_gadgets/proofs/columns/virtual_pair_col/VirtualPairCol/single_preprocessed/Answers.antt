use Rattle.air_gadgets.proofs.columns.virtual_pair_col.VirtualPairCol.single_preprocessed.Goals as goal

pub returns-clause-made : goal.returns-clause-made
returns-clause-made g c = c.single.ensures.made

pub returns-clause-refused : goal.returns-clause-refused
returns-clause-refused g c = c.single.ensures.refused
