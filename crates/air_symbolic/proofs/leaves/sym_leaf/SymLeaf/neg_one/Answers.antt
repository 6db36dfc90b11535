use Rattle.std.proofs.Common.{◌∙◌}
use Rattle.air_symbolic.proofs.leaves.sym_leaf.SymLeaf.neg_one.Goals as goal

pub returns-clause-made : goal.returns-clause-made
returns-clause-made g c = rw (c.NEG_ONE.ensures ∙ g.met.Self.F.Field.neg_one_is) at c.from_const.ensures.made
