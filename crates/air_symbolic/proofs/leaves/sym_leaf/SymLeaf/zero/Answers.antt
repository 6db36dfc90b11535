use Rattle.std.proofs.Common.{◌∙◌}
use Rattle.air_symbolic.proofs.leaves.sym_leaf.SymLeaf.zero.Goals as goal

pub returns-clause-made : goal.returns-clause-made
returns-clause-made g c = rw (c.ZERO.ensures ∙ g.met.Self.F.Field.zero_is) at c.from_const.ensures.made
