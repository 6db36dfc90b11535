use Rattle.std.proofs.Common.{drop}
use Rattle.air_gadgets.proofs.Combining.{IsCombining}
use Rattle.air_gadgets.proofs.columns.virtual_pair_col.VirtualPairCol.apply.Given as goal

abbrev pub invariant-loop-column : goal.invariant-loop-column
invariant-loop-column g l =
    IsCombining g.R.Algebra.has g.R.Algebra.means g.R.Algebra.extends l.fn.ring l.ring l.self l.preprocessed l.main l.total (drop l.column-index l.column-items)
