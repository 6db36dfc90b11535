use Rattle.std.proofs.Common.{◌∙◌}
use Rattle.air_symbolic.proofs.leaves.sym_leaf.SymLeaf.one.Goals as goal

pub returns-clause-made : goal.returns-clause-made
returns-clause-made g c = rw (c.ONE.ensures ∙ g.met.Self.F.Field.one_is) at c.from_const.ensures.made
